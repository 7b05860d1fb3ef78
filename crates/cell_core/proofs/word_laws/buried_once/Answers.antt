-- What is buried stays buried.
use Rattle.cell_core.proofs.UserLemmas.{once}
use Rattle.cell_core.proofs.word_laws.buried_once.Goals as goal

pub returns : goal.returns
returns g c = once
