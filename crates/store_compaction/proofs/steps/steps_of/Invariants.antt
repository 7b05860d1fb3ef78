use Rattle.std.proofs.Common.{◌≡◌, take}
use Rattle.update_batches.specs.Batch.{versions_in, updates_of}
use Rattle.store_compaction.proofs.steps.steps_of.Given as goal

abbrev pub invariant-loop-place : goal.invariant-loop-place
invariant-loop-place g l = record {
  versions : versions_in l.steps.items ≡ take l.place l.versions;
  updates : updates_of l.steps.items ≡ take l.place l.updates;
}
