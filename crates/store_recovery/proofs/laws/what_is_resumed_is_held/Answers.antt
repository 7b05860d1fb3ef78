use Rattle.store_recovery.proofs.RebasedLemmas.{resumed_zones, resumed_changes}
use Rattle.store_recovery.proofs.laws.what_is_resumed_is_held.Goals as goal

pub returns : goal.returns
returns c = record { zones = resumed_zones; changes = resumed_changes }
