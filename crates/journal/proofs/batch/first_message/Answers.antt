use Rattle.std.proofs.Common.{◌≡◌, length, rules}
use Rattle.journal.proofs.BatchLemmas.{no_message_first}
use Rattle.journal.proofs.batch.first_message.Goals as goal

pub returns-then-is_empty : goal.returns-then-is_empty
returns-then-is_empty c =
    let none : length c.in_ok-message.message.now ≡ 0 = search rules in
    no_message_first c.args.octets.now c.in_ok-message.message.now c.in_ok-message.rest.now none c.in_ok-message.ensures.1
