use Rattle.store_compaction.proofs.LawLemmas.{kept_recovered}
use Rattle.store_compaction.proofs.compactor_laws.what_is_accepted_is_recovered.Goals as goal

pub returns : goal.returns
returns c = kept_recovered
