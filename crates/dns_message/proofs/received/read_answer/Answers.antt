use Rattle.std.proofs.Common.{Result, Ok, Err, OnErr}
use Rattle.dns_message.proofs.ReceivedLemmas.{answer_some}
use Rattle.dns_message.proofs.received.read_answer.Goals as goal

weaker : {A E P Q : Type 0} (r : Result A E) → (P → Q) → OnErr r P → OnErr r Q
weaker (Ok a) f h = h
weaker (Err e) f h = f h

-- a growth was refused, so that there are records
pub returns-in-Some-clause-some : goal.returns-in-Some-clause-some
returns-in-Some-clause-some c =
    weaker c.all_received.result (answer_some c.args.octets.now c.in-Some.at c.count_at.result c.in-Some.ensures c.count_at.ensures) c.all_received.ensures.some
