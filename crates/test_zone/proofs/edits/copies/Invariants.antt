use Rattle.std.proofs.Common.{◌≡◌, take}
use Rattle.test_zone.proofs.edits.copies.Given as goal

abbrev pub invariant-loop-set : goal.invariant-loop-set
invariant-loop-set l = l.next.items ≡ take l.set-index l.sets
