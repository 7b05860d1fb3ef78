use Rattle.std.proofs.Common.{◌≢◌, ℕ, List, [], map, Some, Result, Ok, Err, OnErr, option_map, subst}
use Rattle.dns_message.specs.Received.{received}
use Rattle.dns_message.specs.Reads.{body_in}
use Rattle.dns_message.proofs.ReceivedLemmas.{received_some}
use Rattle.dns_message.proofs.received.received_records.Goals as goal

weaker : {A E P Q : Type 0} (r : Result A E) → OnErr r P → (P → Q) → OnErr r Q
weaker (Ok a) h f = h
weaker (Err e) h f = f h

-- a growth was refused, so that there are records
pub returns-then-octets-gt-MAX_PLAIN-clause-some : goal.returns-then-octets-gt-MAX_PLAIN-clause-some
returns-then-octets-gt-MAX_PLAIN-clause-some c = weaker c.read_long_answer.result c.read_long_answer.ensures.some (received_some c.args.octets.now)

pub returns-clause-some : goal.returns-clause-some
returns-clause-some c =
    let P : List ℕ → Type 0 = λ msg. OnErr c.read_answer.result (option_map (λ body. map (received msg) body.answer) (body_in msg) ≢ Some []) in
    weaker c.read_answer.result (subst P c.new-message.ensures c.read_answer.ensures.some) (received_some c.args.octets.now)
