-- A bury that wins finds its number unburied, and its call alone tells it.
use Rattle.world_laws.proofs.BurialLemmas.{told_once, told_final}
use Rattle.world_laws.proofs.laws.burials_are_reported_once.Goals as goal

pub returns-clause-once : goal.returns-clause-once
returns-clause-once c = told_once

pub returns-clause-gone : goal.returns-clause-gone
returns-clause-gone c = told_final
