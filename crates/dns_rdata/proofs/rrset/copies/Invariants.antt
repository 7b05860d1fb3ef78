use Rattle.std.proofs.Common.{◌≡◌, take}
use Rattle.dns_rdata.proofs.rrset.copies.Given as goal

abbrev pub invariant-loop-rdata : goal.invariant-loop-rdata
invariant-loop-rdata l = l.own.items ≡ take l.rdata-index l.from
