use Rattle.message_laws.proofs.AskedLemmas.{reads-request_of}
use Rattle.message_laws.proofs.laws.question_is_read_again.Goals as goal

pub returns : goal.returns
returns c = reads-request_of
