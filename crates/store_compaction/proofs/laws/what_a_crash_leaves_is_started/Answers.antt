use Rattle.store_compaction.proofs.CrashLemmas.{crash_started}
use Rattle.store_compaction.proofs.laws.what_a_crash_leaves_is_started.Goals as goal

pub returns : goal.returns
returns c = crash_started
