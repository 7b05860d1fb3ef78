-- A load at its place in a run.
use Rattle.cell_core.proofs.OwnerLemmas.{was_in_w, keeps_number}
use Rattle.cell_core.proofs.word_laws.load_gives_what_was_in_w.Goals as goal

pub returns-clause-was_last : goal.returns-clause-was_last
returns-clause-was_last g c = was_in_w

pub returns-clause-keeps : goal.returns-clause-keeps
returns-clause-keeps g c = keeps_number
