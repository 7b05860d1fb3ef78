use Rattle.store_compaction.proofs.CrashLemmas.{same_choice}
use Rattle.store_compaction.proofs.laws.compactions_keep_the_choice.Goals as goal

pub returns : goal.returns
returns c = same_choice
