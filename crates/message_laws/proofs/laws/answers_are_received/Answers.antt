use Rattle.message_laws.proofs.AnsweredLemmas.{answers_received}
use Rattle.message_laws.proofs.laws.answers_are_received.Goals as goal

pub returns : goal.returns
returns c = answers_received
