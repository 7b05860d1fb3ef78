use Rattle.std.proofs.Common.{◌-◌, length}
use Rattle.signed_replies.proofs.BareLemmas.{Passes}
use Rattle.signed_replies.proofs.bare.behind_labels.Given as goal

-- labels were passed over
abbrev pub invariant-loop-len : goal.invariant-loop-len
invariant-loop-len l = Passes l.msg l.at l.place

-- each label takes of the octets
abbrev pub decreases-loop-len : goal.decreases-loop-len
decreases-loop-len l = length l.msg - l.place
