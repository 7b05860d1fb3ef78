-- An owner keeps the number that its load gave it.
use Rattle.world_laws.proofs.RunLemmas.{answered_at_loaded, answered_so}
use Rattle.world_laws.proofs.laws.asks_are_answered_at_loaded.Goals as goal

pub returns-clause-version : goal.returns-clause-version
returns-clause-version c = answered_at_loaded

pub returns-clause-answer : goal.returns-clause-answer
returns-clause-answer c = answered_so
