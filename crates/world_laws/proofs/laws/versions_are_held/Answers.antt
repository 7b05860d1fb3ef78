-- Each owner that isn't spent is in one hand: a name's, a call's, or among those of the versions that are kept.
use Rattle.world_laws.proofs.HeldLemmas.{played_held}
use Rattle.world_laws.proofs.laws.versions_are_held.Goals as goal

pub returns : goal.returns
returns c = played_held
