use Rattle.store_compaction.proofs.LawLemmas.{crash_has_last, tended_started}
use Rattle.store_compaction.proofs.compactor_laws.tended_stores_have_the_same_start.Goals as goal

pub returns : goal.returns
returns c = record { crash = crash_has_last; tended = tended_started }
