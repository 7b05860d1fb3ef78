use Rattle.std.proofs.Common.{◌≡◌, ◌+◌, length, drop}
use Rattle.journal.specs.Batch.{batch_of}
use Rattle.update_batches.specs.Batch.{updates_of}
use Rattle.update_batches.proofs.judged.batch_len.Given as goal

-- the octets so far, and those of the updates that are left
abbrev pub invariant-loop-update : goal.invariant-loop-update
invariant-loop-update l = l.len + length (batch_of (updates_of (drop l.update-index l.updates))) ≡ length (batch_of (updates_of l.updates))
