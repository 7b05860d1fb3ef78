-- By the phase of its slot.
use Rattle.cell_core.proofs.WeakLemmas.{frees_unowned}
use Rattle.cell_core.proofs.word_laws.freed_is_unowned.Goals as goal

pub returns : goal.returns
returns g c = frees_unowned
