use Rattle.store_compaction.proofs.EndLemmas.{compaction_store, compaction_started, end_left}
use Rattle.store_compaction.proofs.laws.compactions_keep_the_versions.Goals as goal

pub returns : goal.returns
returns c = record { store = compaction_store; started = compaction_started; recent = end_left }
