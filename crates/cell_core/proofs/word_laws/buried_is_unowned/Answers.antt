-- S is 0.
use Rattle.cell_core.proofs.UserLemmas.{bury_finds_unowned}
use Rattle.cell_core.proofs.word_laws.buried_is_unowned.Goals as goal

pub returns : goal.returns
returns g c = bury_finds_unowned
