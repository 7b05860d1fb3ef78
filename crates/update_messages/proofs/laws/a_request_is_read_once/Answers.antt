use Rattle.update_messages.proofs.JoinedLemmas.{read_once}
use Rattle.update_messages.proofs.laws.a_request_is_read_once.Goals as goal

pub returns : goal.returns
returns c = read_once
