-- How a request is read for which there is no memory.
use Rattle.std.proofs.Common.{◌≡◌, ℕ, ◌==◌, true, false, ◌||◌, List, length, option_and_then, nat_lt, refl, ap, ◌∙◌, arith}
use Rattle.std.proofs.lemmas.Bool.Decides.{nat_tests}
use Rattle.dns_message.specs.Reads.{header_of, is_reply, body_in, seen}
use Rattle.dns_message.specs.Request.{update_of, reads, IsWant}
use Rattle.dns_message.specs.Updates.{update_in}
use Rattle.dns_message.specs.declared.query.Head.{Head}
use Rattle.dns_message.specs.declared.query.Parsed.{Parsed}
use Rattle.dns_message.proofs.ReadLemmas.{judged}

judged_update : (head : Head) (asked : _) (update : _) → head.opcode ≡ 5 → judged false head asked update ≡ update_of head update
judged_update head asked update e =
    let no_query : (head.opcode == 0) ≡ false = ap (λ (n : ℕ). n == 0) e in
    let is_update : (head.opcode == 5) ≡ true = ap (λ (n : ℕ). n == 5) e in
    rw (no_query, is_update) refl

-- a request for which there is no memory is read as an update
pub reads-want : (msg : List ℕ) (reported : Parsed) → IsWant msg reported → reads msg ≡ update_of (header_of msg) (update_in (header_of msg) msg)
reads-want msg reported want =
    let least = want.whole in
    let whole : nat_lt (length msg) 12 ≡ false = grind (arith, nat_tests) in
    let asked = option_and_then (seen msg) (body_in msg) in
    let update = update_in (header_of msg) msg in
    ap (λ b. judged (b || is_reply msg) (header_of msg) asked update) whole
    ∙ ap (λ b. judged b (header_of msg) asked update) want.asks
    ∙ judged_update (header_of msg) asked update want.update
