use Rattle.std.proofs.Common.{◌≡◌, take}
use Rattle.journal.specs.Batch.{batch_of}
use Rattle.update_batches.specs.Batch.{updates_of}
use Rattle.store_compaction.proofs.steps.batch_body.Given as goal

abbrev pub invariant-loop-update : goal.invariant-loop-update
invariant-loop-update l = l.body.items ≡ batch_of (updates_of (take l.update-index l.updates))
