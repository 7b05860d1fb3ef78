use Rattle.std.proofs.Common.{◌≡◌, take}
use Rattle.dns_name.proofs.sought.common_len.Given as goal

abbrev pub invariant-loop-at : goal.invariant-loop-at
invariant-loop-at l = take l.at l.own ≡ take l.at l.other
