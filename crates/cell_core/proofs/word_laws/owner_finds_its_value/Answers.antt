-- Its slot is live.
use Rattle.cell_core.proofs.UserLemmas.{owner_finds, owner_is_given, last_is_given}
use Rattle.cell_core.proofs.word_laws.owner_finds_its_value.Goals as goal

pub returns-clause-slot : goal.returns-clause-slot
returns-clause-slot g c = owner_finds

pub returns-clause-found : goal.returns-clause-found
returns-clause-found g c = owner_is_given

pub returns-clause-last : goal.returns-clause-last
returns-clause-last g c = last_is_given
