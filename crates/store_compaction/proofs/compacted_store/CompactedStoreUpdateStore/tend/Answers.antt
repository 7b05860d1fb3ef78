-- A store that is tended: what was written is put in place, and then the next text is begun.
use Rattle.std.proofs.Common.{refl}
use Rattle.store_compaction.proofs.KeptLemmas.{tended_kept}
use Rattle.store_compaction.proofs.HasLemmas.{has_tended}
use Rattle.store_compaction.proofs.LeavesLemmas.{leaves_same, leaves_tended}
use Rattle.store_compaction.proofs.compacted_store.CompactedStoreUpdateStore.tend.Goals as goal

pub returns-then-is_some-clause-crash : goal.returns-then-is_some-clause-crash
returns-then-is_some-clause-crash g c = leaves_same c.args.self.now c.args.self.now refl

pub returns-clause-kept : goal.returns-clause-kept
returns-clause-kept g c =
    has_tended c.args.self.now c.start.new.self (tended_kept c.args.self.now c.finish.new.self c.start.new.self c.finish.ensures.tended c.start.ensures.kept)

pub returns-clause-crash : goal.returns-clause-crash
returns-clause-crash g c zone published updates has =
    leaves_tended c.args.self.now c.finish.new.self c.start.new.self c.finish.ensures.placed c.start.ensures.log zone published updates has
    (has_tended c.args.self.now c.start.new.self (tended_kept c.args.self.now c.finish.new.self c.start.new.self c.finish.ensures.tended c.start.ensures.kept) zone published updates has)
