use Rattle.std.proofs.Common.{◌≡◌, ◌++◌}
use Rattle.std.specs.Vec.Iter.{into_iter_items}
use Rattle.store_compaction.specs.RecentUpdates.{followed}
use Rattle.store_compaction.proofs.recent_updates.RecentUpdates.follow.Given as goal

abbrev pub invariant-loop-step : goal.invariant-loop-step
invariant-loop-step l = record {
  left : l.yielded ++ into_iter_items l.step-iterator ≡ l.fn.steps.items;
  recent : l.self ≡ followed l.fn.self l.yielded;
}
