-- A function has a step, or none.
use Rattle.cell_core.proofs.MadeLemmas.{none_made}
use Rattle.cell_core.proofs.word_laws.steps_are_a_function.Goals as goal

pub returns-clause-none : goal.returns-clause-none
returns-clause-none g c = none_made
