use Rattle.std.proofs.Common.{◌≡◌, ◌++◌, filter, take}
use Rattle.std.specs.Ordering.{is_gt}
use Rattle.zone_tree.specs.Edit.{set_beside}
use Rattle.test_zone.proofs.edits.put_after.Given as goal

abbrev pub invariant-loop-set : goal.invariant-loop-set
invariant-loop-set l = l.to.items ≡ l.initial.to.items ++ filter (λ set. is_gt (set_beside l.owner l.rtype.0 set)) (take l.set-index l.sets)
