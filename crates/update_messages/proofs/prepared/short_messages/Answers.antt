use Rattle.std.proofs.Common.{map}
use Rattle.update_messages.proofs.PreparedLemmas.{are_request}
use Rattle.update_messages.proofs.prepared.short_messages.Goals as goal

pub request_of-messages-requires : goal.request_of-messages-requires
request_of-messages-requires c = are_request c.args.update.now (map (λ message. message.items) c.in_ok-messages_of.field-0.items) c.in_ok-messages_of.ensures.messages
