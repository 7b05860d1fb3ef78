use Rattle.store_compaction.proofs.RecentLemmas.{followed_is}
use Rattle.store_compaction.proofs.EndLemmas.{begun_end, end_more, last_is}
use Rattle.store_compaction.proofs.laws.recent_updates_end_their_stores.Goals as goal

pub returns : goal.returns
returns c = record { follows = followed_is; begun = begun_end; goes_on = end_more; last = last_is }
