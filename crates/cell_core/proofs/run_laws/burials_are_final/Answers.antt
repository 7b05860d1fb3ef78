-- What is buried stays buried, and has no owner.
use Rattle.cell_core.proofs.BeginShows.{begun_shows}
use Rattle.cell_core.proofs.UserLemmas.{once}
use Rattle.cell_core.proofs.RunLawLemmas.{buried_unowned, buried_behind}
use Rattle.cell_core.specs.Cell.{start}
use Rattle.cell_core.specs.Words.{begun}
use Rattle.cell_core.proofs.run_laws.burials_are_final.Goals as goal

pub returns-clause-once : goal.returns-clause-once
returns-clause-once g c first after run one two number its other r h k =
    once (begun first) after (start first) run one two number its other (begun_shows first) r h k

pub returns-clause-before : goal.returns-clause-before
returns-clause-before g c = buried_unowned

pub returns-clause-behind : goal.returns-clause-behind
returns-clause-behind g c = buried_behind
