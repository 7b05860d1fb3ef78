use Rattle.std.proofs.Common.{◌≡◌, ◌++◌, length}
use Rattle.dns_name.specs.Stored.{octets_stored}
use Rattle.dns_name.proofs.stored.put_octets.Given as goal

abbrev pub invariant-loop-octet : goal.invariant-loop-octet
invariant-loop-octet l = l.to.items ++ octets_stored l.rest ≡ l.initial.to.items ++ octets_stored l.piece

abbrev pub decreases-loop-octet : goal.decreases-loop-octet
decreases-loop-octet l = length l.rest
