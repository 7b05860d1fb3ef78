-- The versions of the updates so far are published.
use Rattle.std.proofs.Common.{◌≡◌, ◌+◌, ◌++◌, ◌∷◌, [], length}
use Rattle.std.specs.Vec.Iter.{into_iter_items}
use Rattle.update_batches.specs.Batch.{versions_in}
use Rattle.test_update_batches.proofs.version_list.VersionList.put_all.Given as goal

abbrev pub invariant-loop-update : goal.invariant-loop-update
invariant-loop-update l = record {
  left : l.yielded ++ into_iter_items l.update-iterator ≡ l.fn.updates.items;
  published : l.self.before.items ++ l.self.last ∷ [] ≡ (l.fn.self.before.items ++ l.fn.self.last ∷ []) ++ versions_in l.yielded;
  begun : l.self.begun ≡ l.fn.self.begun;
  room : l.self.room + length l.yielded ≡ l.fn.self.room;
  replied : l.self.replied.replies ≡ l.fn.self.replied.replies;
}
