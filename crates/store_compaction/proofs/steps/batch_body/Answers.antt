use Rattle.std.proofs.Common.{◌≡◌, ◌<◌, ℕ, List, length, sym, subst, arith}
use Rattle.journal.specs.Frame.{body_limit}
use Rattle.std.proofs.lemmas.Grind.{common_steps}
use Rattle.journal.specs.Batch.{batch_of}
use Rattle.update_batches.specs.Batch.{updates_of}
use Rattle.store_compaction.proofs.steps.batch_body.Goals as goal

pub returns-clause-short : goal.returns-clause-short
returns-clause-short c =
    let all : c.loop-update.body.items ≡ batch_of (updates_of c.args.updates.now) = grind (arith, common_steps) in
    subst (λ (o : List ℕ). length o < body_limit) (sym all) c.requires.short
