use Rattle.std.proofs.Common.{◌≡◌, [], ◌∷◌, map, take}
use Rattle.journal.specs.Batch.{batch_of}
use Rattle.update_batches.specs.Batch.{updates_of}
use Rattle.store_compaction.proofs.steps.bodies_of.Given as goal

abbrev pub invariant-loop-update : goal.invariant-loop-update
invariant-loop-update l = map (λ body. body.octets.items) l.bodies.items ≡ map (λ messages. batch_of (messages ∷ [])) (updates_of (take l.update-index l.updates))
