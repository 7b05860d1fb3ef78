use Rattle.std.proofs.Common.{◌≡◌, ◌++◌, take, drop}
use Rattle.dns_rdata.specs.Record.{with_data}
use Rattle.dns_rdata.proofs.rrset.place_of.Given as goal

abbrev pub invariant-loop-at : goal.invariant-loop-at
invariant-loop-at l = with_data l.rdata l.sorted ≡ take l.at l.sorted ++ with_data l.rdata (drop l.at l.sorted)
