-- The update under way is that of the line which began it, so the line that ends it tells it.
use Rattle.world_laws.proofs.InTurnLemmas.{told_in_turn}
use Rattle.world_laws.proofs.laws.updates_are_answered_in_turn.Goals as goal

pub returns : goal.returns
returns c = told_in_turn
