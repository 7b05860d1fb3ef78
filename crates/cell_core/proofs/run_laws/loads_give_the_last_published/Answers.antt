-- W has the last number.
use Rattle.cell_core.proofs.RunLawLemmas.{load_has}
use Rattle.cell_core.proofs.run_laws.loads_give_the_last_published.Goals as goal

pub returns : goal.returns
returns g c = load_has
