-- The slots are there.
use Rattle.std.proofs.Common.{refl, lit<}
use Rattle.cell_core.specs.Words.{first_slot}
use Rattle.cell_core.specs.WordSteps.{with_weak_word}
use Rattle.cell_core.specs.WordExample.{dead_slot}
use Rattle.cell_core.proofs.word_laws.weak_examples.Goals as goal

pub returns-clause-note : goal.returns-clause-note
returns-clause-note c = (0, 0, first_slot 10, refl, refl, lit< tt, refl, refl)

pub returns-clause-alive : goal.returns-clause-alive
returns-clause-alive c = (0, 0, with_weak_word 2 (first_slot 10), refl, refl, (refl, refl))

pub returns-clause-up : goal.returns-clause-up
returns-clause-up c = (0, 0, with_weak_word 2 (first_slot 10), refl, refl, lit< tt, (refl, refl))

pub returns-clause-copy : goal.returns-clause-copy
returns-clause-copy c = (0, 0, with_weak_word 2 (first_slot 10), refl, refl, lit< tt, (refl, refl))

pub returns-clause-gone : goal.returns-clause-gone
returns-clause-gone c = (0, 0, dead_slot 2, refl, refl, (refl, refl))

pub returns-clause-late : goal.returns-clause-late
returns-clause-late c = (0, 0, dead_slot 2, refl, refl, lit< tt, (refl, refl))

pub returns-clause-burier : goal.returns-clause-burier
returns-clause-burier c = (0, dead_slot 2, refl, refl, (refl, refl))

pub returns-clause-last : goal.returns-clause-last
returns-clause-last c = (0, dead_slot 1, refl, refl, (refl, refl))

pub returns-clause-reset : goal.returns-clause-reset
returns-clause-reset c = (0, dead_slot 0, refl, refl, refl, refl)

pub returns-clause-free : goal.returns-clause-free
returns-clause-free c = (0, dead_slot 1, refl, refl, refl, refl)
