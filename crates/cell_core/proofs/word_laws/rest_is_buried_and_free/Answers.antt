-- Each slot is free or has a number that is owned, or the last.
use Rattle.cell_core.proofs.RestLemmas.{rest_buried, rest_free, rest_weak, rest_no_weak}
use Rattle.cell_core.proofs.word_laws.rest_is_buried_and_free.Goals as goal

pub returns-clause-buried : goal.returns-clause-buried
returns-clause-buried g c = rest_buried

pub returns-clause-free : goal.returns-clause-free
returns-clause-free g c = rest_free

pub returns-clause-weak_word : goal.returns-clause-weak_word
returns-clause-weak_word g c = rest_weak

pub returns-clause-weak : goal.returns-clause-weak
returns-clause-weak g c = rest_no_weak
