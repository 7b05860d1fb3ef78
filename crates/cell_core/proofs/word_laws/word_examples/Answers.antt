-- The slots are there.
use Rattle.std.proofs.Common.{refl}
use Rattle.cell_core.specs.Words.{first_slot}
use Rattle.cell_core.proofs.word_laws.word_examples.Goals as goal

pub returns-clause-probe : goal.returns-clause-probe
returns-clause-probe c = (0, first_slot 10, refl, refl, (refl, refl))

pub returns-clause-release : goal.returns-clause-release
returns-clause-release c = (0, 0, first_slot 10, refl, refl, (refl, refl))
