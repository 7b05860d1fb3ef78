use Rattle.std.proofs.Common.{◌≡◌, ◌++◌, take}
use Rattle.zone_tree.specs.Delta.{sets_left_out}
use Rattle.zone_tree.proofs.left_out.put_left_out.Given as goal

abbrev pub invariant-loop-set : goal.invariant-loop-set
invariant-loop-set l = l.to.items ≡ l.initial.to.items ++ sets_left_out (take l.set-index l.sets) l.other
