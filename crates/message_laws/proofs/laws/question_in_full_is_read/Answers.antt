use Rattle.message_laws.proofs.AgainLemmas.{question_full_again}
use Rattle.message_laws.proofs.laws.question_in_full_is_read.Goals as goal

pub returns : goal.returns
returns c = question_full_again
