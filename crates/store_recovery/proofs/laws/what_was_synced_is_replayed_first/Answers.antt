use Rattle.store_recovery.proofs.StoreLemmas.{synced_taken}
use Rattle.store_recovery.proofs.laws.what_was_synced_is_replayed_first.Goals as goal

pub returns : goal.returns
returns c = synced_taken
