-- A buried number is never the last.
use Rattle.cell_core.proofs.LawLemmas.{reached_sound, last_unburied}
use Rattle.cell_core.proofs.laws.last_is_not_buried.Goals as goal

pub returns : goal.returns
returns g c cell r k = last_unburied cell k (reached_sound cell r)
