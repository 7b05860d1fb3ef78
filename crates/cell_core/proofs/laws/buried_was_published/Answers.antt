-- Every run keeps it.
use Rattle.cell_core.proofs.LawLemmas.{reached_sound}
use Rattle.cell_core.proofs.laws.buried_was_published.Goals as goal

pub returns : goal.returns
returns g c cell r = (reached_sound cell r).buried_published
