use Rattle.store_recovery.proofs.StoreLemmas.{store_taken, store_accepted}
use Rattle.store_recovery.proofs.laws.what_is_accepted_is_recovered.Goals as goal

pub returns : goal.returns
returns c = record { taken = store_taken; accepted = store_accepted }
