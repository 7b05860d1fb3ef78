use Rattle.update_messages.proofs.JoinedLemmas.{one_read, read_alone}
use Rattle.update_messages.proofs.laws.one_message_is_read.Goals as goal

pub returns : goal.returns
returns c = record { is = one_read; only = read_alone }
