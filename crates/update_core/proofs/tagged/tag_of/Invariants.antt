use Rattle.std.proofs.Common.{◌≡◌, drop}
use Rattle.update_core.specs.Tagged.{tag_from}
use Rattle.update_core.proofs.tagged.tag_of.Given as goal

-- the octets so far made this number, and the others make the whole one of it
abbrev pub invariant-loop-octet : goal.invariant-loop-octet
invariant-loop-octet l = tag_from l.tag (drop l.octet-index l.octets) ≡ tag_from 0 l.octets
