-- S of its slot is below DEAD.
use Rattle.cell_core.proofs.WeakLemmas.{clone_gives}
use Rattle.cell_core.proofs.run_laws.clones_give_that_number.Goals as goal

pub returns : goal.returns
returns g c = clone_gives
