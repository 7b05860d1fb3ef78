-- The request that a reply answers is read.
use Rattle.std.proofs.Common.{◌≡◌, ◌==◌, ℕ, ◌+◌, ◌*◌, ◌/◌, ◌%◌, ◌<◌, ◌^◌, Bool, true, false, not, ◌||◌, ◌&&◌, option_and_then, if◌then◌else◌, eq-eqb, List, [], ◌∷◌, ◌++◌, length, drop, Option, Some, None, Result, nat_lt, nat_le, refl, ap, subst, ◌∙◌, arith, lit<}
use Rattle.std.proofs.Math.Bridge.{le_prop}
use Rattle.std.proofs.Math.Nat.{mod-lt}
use Rattle.std.proofs.lemmas.Bool.Decides.{nat_tests}
use Rattle.std.proofs.lemmas.Nat.{from_be_bytes-to_be_bytes_2}
use Rattle.dns_rdata.specs.declared.numbers.Rcode.TheVariants.{NotImp}
use Rattle.dns_rdata.specs.declared.numbers.Serial.{Serial}
use Rattle.dns_message.specs.Asked.{request_header, request_of, IsAnswerTo}
use Rattle.dns_message.specs.Message.{Message}
use Rattle.dns_message.specs.Reads.{header_of, is_reply, body_in, seen}
use Rattle.dns_message.specs.Request.{query_of, update_of, reads}
use Rattle.dns_message.specs.Updates.{update_in}
use Rattle.dns_message.specs.Octets.{bit, reply_octets}
use Rattle.dns_message.specs.Opt.{opt_part}
use Rattle.dns_message.specs.declared.query.Head.{Head}
use Rattle.dns_message.specs.declared.query.Question.{Question}
use Rattle.dns_message.specs.declared.query.Parsed.{Parsed}
use Rattle.dns_message.specs.declared.query.Parsed.TheVariants.{Silent, Fault, Query}
use Rattle.message_laws.proofs.AgainLemmas.{none_more}
use Rattle.dns_message.proofs.ReadLemmas.{Said, judged, none_held}
use Rattle.dns_message.proofs.TrueLemmas.{IsTrueOf-nothing}
use Rattle.dns_message.proofs.KeepsLemmas.{Stands}
use Rattle.message_laws.proofs.SectionLemmas.{asked_again, one_question, question_part, answer_part, authority_part, additional_part, sections_parts, body_parts}

-- a header of these parts
abbrev head_with : ℕ → Bool → (opcode : ℕ) → opcode < 16 → Head
head_with id rd opcode h = record { id = id; opcode = opcode; rd = rd; four_bits = h }

-- headers of the same parts are the same
same_head : (id : ℕ) (rd : Bool) (a b : ℕ) (h : a < 16) (k : b < 16) → a ≡ b → head_with id rd a h ≡ head_with id rd b k
same_head id rd a b h k e =
    let P : ℕ → Type 0 = λ n. (j : n < 16) → head_with id rd a h ≡ head_with id rd n j in
    subst P e (λ j. ap (head_with id rd a) (le_prop h j)) k

-- OPCODE and RD are read from their octet
opcode_again : (opcode : ℕ) (rd : Bool) → opcode < 16 → (8 * opcode + bit rd) / 8 % 16 ≡ opcode
opcode_again opcode true h = omega arith
opcode_again opcode false h = omega arith

rd_again : (opcode : ℕ) (rd : Bool) → opcode ≡ 0 → ((8 * opcode + bit rd) % 2 == 1 && not ((8 * opcode + bit rd) / 8 % 16 == 5)) ≡ rd
rd_again opcode true z = ap (λ n. (8 * n + 1) % 2 == 1 && not ((8 * n + 1) / 8 % 16 == 5)) z
rd_again opcode false z = ap (λ n. (8 * n + 0) % 2 == 1 && not ((8 * n + 0) / 8 % 16 == 5)) z

-- the header of a query is read as it was written
header_again : (head : Head) (rest : List ℕ) → head.id < 2 ^ 16 → head.opcode ≡ 0 → header_of (request_header head ++ rest) ≡ head
header_again head rest h z =
    let octet = 8 * head.opcode + bit head.rd in
    let rd = octet % 2 == 1 && not (octet / 8 % 16 == 5) in
    let id = from_be_bytes-to_be_bytes_2 head.id h in
    ap (λ n. head_with n rd (octet / 8 % 16) (mod-lt (octet / 8) (lit< tt))) id
    ∙ ap (λ b. head_with head.id b (octet / 8 % 16) (mod-lt (octet / 8) (lit< tt))) (rd_again head.opcode head.rd z)
    ∙ same_head head.id head.rd _ _ _ head.four_bits (opcode_again head.opcode head.rd head.four_bits)

-- a request's third octet isn't a reply's
asks : (opcode : ℕ) (rd : Bool) → opcode < 16 → nat_le 128 (8 * opcode + bit rd) ≡ false
asks opcode true h = grind (arith, nat_tests)
asks opcode false h = grind (arith, nat_tests)

judged_standard : (head : Head) (asked : Option (Question × Option Serial × Said)) (update : _) → head.opcode ≡ 0 → judged false head asked update ≡ query_of head asked
judged_standard head asked update z = let standard : (head.opcode == 0) ≡ true = eq-eqb _ _ z in rw standard

-- a request is read as what its header and what stands behind it say
reads-request : (head : Head) (rest : List ℕ) → head.id < 2 ^ 16 → head.opcode ≡ 0 → reads (request_header head ++ rest) ≡ query_of head (option_and_then (seen (request_header head ++ rest)) (body_in (request_header head ++ rest)))
reads-request head rest h z =
    let msg = request_header head ++ rest in
    let whole : nat_lt (length msg) 12 ≡ false = grind (arith, nat_tests) in
    let asked = option_and_then (seen msg) (body_in msg) in
    let update = update_in (header_of msg) msg in
    ap (λ b. judged (b || is_reply msg) (header_of msg) asked update) whole
    ∙ ap (λ b. judged b (header_of msg) asked update) (asks head.opcode head.rd head.four_bits)
    ∙ ap (λ a. judged false a asked update) (header_again head rest h z)
    ∙ judged_standard head asked update z

-- behind a request's header stands the question that the reply repeats
question_stands : (m : Message) → Stands (request_of m) (request_header m.head) (question_part m ++ (answer_part m ++ (authority_part m ++ (additional_part m ++ opt_part m.rcode m.opt)))) [] 12
question_stands m = record { at = refl; is = ap (λ t. request_header m.head ++ t) (sections_parts m); holds = IsTrueOf-nothing (request_header m.head) }

body_in_of : (m : Message) (q : Question) → IsAnswerTo m q → body_in (request_of m) ≡ Some (record { questions = q ∷ []; answer = []; authority = []; additional = [] })
unfolding question_part
body_in_of m q h =
    body_parts (request_of m) (q ∷ []) 1 0 0 0 _ _ _ _ [] [] [] refl refl refl refl
    (one_question _ _ _ q (asked_again m.question q _ _ _ _ _ h.asked h.lawful (question_stands m)))
    (none_more _ _) (none_more _ _) (none_more _ _)

-- the question that a reply repeats is read as itself
pub reads-request_of : (m : Message) (q : Question) → IsAnswerTo m q → reads (request_of m) ≡ Query (record { head = m.head; question = q; serial = None; edns = None })
reads-request_of m q h =
    reads-request m.head (drop 12 (reply_octets m)) h.id h.standard
    ∙ ap (λ b. query_of m.head (option_and_then (seen (request_of m)) b)) (body_in_of m q h)
    ∙ ap (λ serial. Query (record { head = m.head; question = q; serial = serial; edns = None })) (none_held (q.rtype.0 == 251))
