-- By what each step makes of a cell.
use Rattle.cell_core.proofs.LawLemmas.{run_grows}
use Rattle.cell_core.proofs.laws.only_grows.Goals as goal

pub returns-clause-published : goal.returns-clause-published
returns-clause-published g c before after run r = (run_grows before after run r).published

pub returns-clause-buried : goal.returns-clause-buried
returns-clause-buried g c before after run r = (run_grows before after run r).buried
