-- A call's next step is one on a word, of the same name.
use Rattle.world_laws.proofs.LineLemmas.{next_takes_one, begin_takes_none}
use Rattle.world_laws.proofs.laws.lines_take_one_step.Goals as goal

pub returns-clause-next : goal.returns-clause-next
returns-clause-next c = next_takes_one

pub returns-clause-begin_call : goal.returns-clause-begin_call
returns-clause-begin_call c = begin_takes_none
