-- The batch is added to the compaction that is under way.
use Rattle.std.proofs.Common.{◌∙◌}
use Rattle.update_batches.specs.Batch.{updates_of}
use Rattle.store_compaction.proofs.MarkedLemmas.{short_steps}
use Rattle.store_compaction.proofs.writer.StoreWriter.append.Goals as goal

pub returns-clause-marked : goal.returns-clause-marked
returns-clause-marked g c some k batches before now was is marked within =
    c.add.ensures.marked k batches (updates_of c.args.updates.now) before now was is marked within (short_steps c.args.updates.now)
    (c.deref-2.ensures.value ∙ c.in-Ok-batch_body.ensures.batch)
