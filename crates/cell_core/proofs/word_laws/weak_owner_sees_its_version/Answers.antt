-- By the phase of its slot.
use Rattle.cell_core.proofs.WeakLemmas.{sees_alive, sees_dead, keeps_slot}
use Rattle.cell_core.proofs.word_laws.weak_owner_sees_its_version.Goals as goal

pub returns-clause-alive : goal.returns-clause-alive
returns-clause-alive g c = sees_alive

pub returns-clause-dead : goal.returns-clause-dead
returns-clause-dead g c = sees_dead

pub returns-clause-kept : goal.returns-clause-kept
returns-clause-kept g c = keeps_slot
