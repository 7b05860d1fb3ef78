use Rattle.update_messages.proofs.JoinedLemmas.{read_once}
use Rattle.update_messages.proofs.WrittenLemmas.{messages_read}
use Rattle.zone_change.specs.Change.{change_to}
use Rattle.update_messages.proofs.laws.a_change_is_read_again.Goals as goal

pub returns : goal.returns
returns c = record {
  is = λ old next messages h k apex are. messages_read old next h k apex messages are;
  only = λ old next messages update h k apex are read. read_once messages update (change_to old next) read (messages_read old next h k apex messages are);
}
