-- By the place of the load.
use Rattle.cell_core.proofs.LawLemmas.{run_loads}
use Rattle.cell_core.proofs.laws.load_gives_the_last.Goals as goal

pub returns : goal.returns
returns g c = run_loads
