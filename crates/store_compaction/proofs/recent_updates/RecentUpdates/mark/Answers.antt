use Rattle.std.proofs.Common.{◌≡◌, ◌≤◌, ◌∷◌, [], length, map, rules}
use Rattle.journal.specs.Batch.{batch_of}
use Rattle.update_batches.specs.Batch.{updates_of}
use Rattle.store_compaction.specs.Marked.{bodies_of}
use Rattle.store_compaction.proofs.EndLemmas.{marked_end}
use Rattle.store_compaction.proofs.recent_updates.RecentUpdates.mark.Goals as goal

pub returns-clause-marked : goal.returns-clause-marked
returns-clause-marked g c text head batches zone updates k end =
    let bodies : bodies_of c.of-compaction.result ≡ map (λ messages. batch_of (messages ∷ [])) (updates_of c.args.self.now.steps) = search rules in
    let few : length c.args.self.now.steps ≤ 8 = search rules in
    marked_end c.of-compaction.result text head batches zone updates c.args.self.now k bodies few end
