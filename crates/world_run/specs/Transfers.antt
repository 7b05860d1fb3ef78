-- What a transfer of a version gets, by the versions that were got of those after the client's (RFC 1995, 4; RFC 5936, 2.2).
use Rattle.std.specs.Prelude.{ℕ, true, List, Option, None, Some, if◌then◌else◌}
use Rattle.dns_message.specs.declared.query.Parsed.{Parsed}
use Rattle.dns_message.specs.declared.query.Parsed.TheVariants.{Query as Asks}
use Rattle.dns_message.specs.Request.{reads}
use Rattle.serve_core.specs.declared.transport.Transport.TheVariants.{Tcp}
use Rattle.serve_core.specs.Transfers.{peer_over, is_permitted, messages_to}
use Rattle.transfer_core.specs.Chain.{told_changes}
use Rattle.zone_tree.specs.Zone.{soa_of}
use Rattle.world_run.specs.declared.sending.Sending.{Sending}
use Rattle.world_run.specs.declared.step.Answer.{Answer}
use Rattle.world_run.specs.declared.step.Answer.TheVariants.{Silent, Messages}

-- an incremental transfer, where each version after the client's was got (RFC 1995, 4)
abbrev pub sent_for : Sending → Parsed → Option (List (List ℕ))
sent_for sending (Asks query) =
    if is_permitted sending.version.zone (peer_over Tcp true) query
    then Some (messages_to sending.version.zone (told_changes sending.whole (soa_of sending.version.zone) sending.got) (peer_over Tcp true) query)
    else None
sent_for sending said = None

-- the messages answer, where the request is for a transfer that may be sent (RFC 5936, 2.2)
abbrev pub messages_answer : Option (List (List ℕ)) → Answer
messages_answer None = Silent
messages_answer (Some messages) = Messages messages

abbrev pub sent_answer : Sending → Answer
sent_answer sending = messages_answer (sent_for sending (reads sending.request))
