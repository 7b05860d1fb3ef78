use Rattle.std.proofs.Common.{◌+◌, ◌-◌, length}
use Rattle.wire_names.proofs.ReadLemmas.{IsUnderWay}
use Rattle.wire_names.proofs.read.name_in.Given as goal

abbrev pub invariant-loop-octets : goal.invariant-loop-octets
invariant-loop-octets l = IsUnderWay l.msg l.at l.run l.place l.behind l.octets.items

-- each label takes of the octets, and each pointer goes down
abbrev pub decreases-loop-octets : goal.decreases-loop-octets
decreases-loop-octets l = l.run + (255 - length l.octets.items)
