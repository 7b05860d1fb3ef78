-- The place of the bury.
use Rattle.std.proofs.Common.{refl}
use Rattle.cell_core.proofs.run_laws.run_examples.Goals as goal

pub returns-clause-buried : goal.returns-clause-buried
returns-clause-buried c = (1, 1, refl)
