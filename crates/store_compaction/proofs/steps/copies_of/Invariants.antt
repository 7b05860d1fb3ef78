use Rattle.std.proofs.Common.{◌≡◌, take}
use Rattle.update_batches.specs.Batch.{versions_in, updates_of}
use Rattle.store_compaction.proofs.steps.copies_of.Given as goal

abbrev pub invariant-loop-update : goal.invariant-loop-update
invariant-loop-update g l = record {
  versions : versions_in l.copies.items ≡ versions_in (take l.update-index l.updates);
  updates : updates_of l.copies.items ≡ updates_of (take l.update-index l.updates);
}
