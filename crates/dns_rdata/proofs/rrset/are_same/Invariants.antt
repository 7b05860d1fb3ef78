use Rattle.std.proofs.Common.{◌≡◌, take}
use Rattle.dns_rdata.proofs.rrset.are_same.Given as goal

-- the data so far are the same
abbrev pub invariant-loop-at : goal.invariant-loop-at
invariant-loop-at l = take l.at l.own ≡ take l.at l.other
