-- By what S shows.
use Rattle.cell_core.proofs.WeakLemmas.{up_gives, up_gives_none, look_sees}
use Rattle.cell_core.proofs.run_laws.upgrades_give_that_number.Goals as goal

pub returns-clause-given : goal.returns-clause-given
returns-clause-given g c = up_gives

pub returns-clause-none : goal.returns-clause-none
returns-clause-none g c = up_gives_none

pub returns-clause-seen : goal.returns-clause-seen
returns-clause-seen g c = look_sees
