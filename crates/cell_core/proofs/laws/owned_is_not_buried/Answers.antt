-- Every run keeps it.
use Rattle.cell_core.proofs.LawLemmas.{reached_sound}
use Rattle.cell_core.proofs.laws.owned_is_not_buried.Goals as goal

pub returns : goal.returns
returns g c cell r = (reached_sound cell r).owned_unburied
