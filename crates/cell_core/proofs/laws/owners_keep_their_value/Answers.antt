-- What is published stays at its place.
use Rattle.cell_core.proofs.LawLemmas.{run_keeps_values}
use Rattle.cell_core.proofs.laws.owners_keep_their_value.Goals as goal

pub returns : goal.returns
returns g c = run_keeps_values
