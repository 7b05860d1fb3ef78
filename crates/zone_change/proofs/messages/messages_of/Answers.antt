use Rattle.zone_change.proofs.MessagesLemmas.{all_messages}
use Rattle.zone_change.proofs.messages.messages_of.Goals as goal

pub returns-clause-messages : goal.returns-clause-messages
returns-clause-messages c =
    let rest = c.in_ok-put_rest.ensures.rest in
    all_messages c.args.update.now c.as_slice-prerequisites.result.now c.as_slice-records.result.now c.in-Some.room c.fitting-count.result rest.0 c.in_ok-first.first.items _ _
    c.as_slice-prerequisites.ensures c.as_slice-records.ensures c.in-Some.ensures c.fitting-count.ensures.room c.fitting-count.ensures.most rest.1 rest.2 rest.3 c.in_ok-first.ensures
    c.in_ok-messages.ensures rest.4
