use Rattle.store_compaction.proofs.ZonesLemmas.{recent_started}
use Rattle.store_compaction.proofs.laws.starts_have_their_recent_updates.Goals as goal

pub returns : goal.returns
returns c = recent_started
