use Rattle.std.proofs.Common.{◌≡◌, ◌+◌, ◌-◌, length, drop}
use Rattle.dns_name.specs.Stored.{octets_stored}
use Rattle.dns_name.proofs.stored.octet_count.Given as goal

abbrev pub invariant-loop-octet : goal.invariant-loop-octet
invariant-loop-octet l = l.count + length (octets_stored (drop l.at l.octets)) ≡ length (octets_stored l.octets)

abbrev pub decreases-loop-octet : goal.decreases-loop-octet
decreases-loop-octet l = length l.octets - l.at
