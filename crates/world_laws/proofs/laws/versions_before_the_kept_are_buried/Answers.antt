-- The owners that aren't spent are those of the versions that are kept.
use Rattle.world_laws.proofs.HeldLemmas.{played_rests}
use Rattle.world_laws.proofs.laws.versions_before_the_kept_are_buried.Goals as goal

pub returns : goal.returns
returns c = played_rests
