use Rattle.dns_message.proofs.UpdatesLemmas.{head_kept}
use Rattle.message_laws.proofs.laws.update_keeps_its_header.Goals as goal

pub returns : goal.returns
returns c = head_kept
