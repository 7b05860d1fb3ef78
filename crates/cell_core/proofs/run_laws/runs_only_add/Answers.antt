-- By the run in front.
use Rattle.cell_core.proofs.RunLawLemmas.{published_more, buried_more}
use Rattle.cell_core.proofs.run_laws.runs_only_add.Goals as goal

pub returns-clause-published : goal.returns-clause-published
returns-clause-published g c = published_more

pub returns-clause-buried : goal.returns-clause-buried
returns-clause-buried g c = buried_more
