-- How a request is read.
use Rattle.std.proofs.Common.{◌≡◌, ◌≢◌, ◌==◌, ℕ, zero, suc, ◌+◌, ◌-◌, ◌<◌, ◌≤◌, Bool, true, false, not, if◌then◌else◌, List, [], ◌∷◌, length, Option, Some, None, Result, Ok, Err, refl, sym, ap, ◌∙◌, arith, option_map, option_and_then}
use Rattle.dns_rdata.specs.declared.numbers.Serial.{Serial}
use Rattle.dns_rdata.specs.Numbers.{type_IXFR}
use Rattle.dns_message.specs.Message.{Entry, Body, number_at}
use Rattle.dns_rdata.specs.declared.numbers.RType.{RType}
use Rattle.dns_name.specs.Name.{Name}
use Rattle.wire_names.specs.NameAt.{name_at}
use Rattle.wire_names.specs.Sizes.{behind_of}
use Rattle.wire_names.specs.declared.part.NameReadFault.{NameReadFault}
use Rattle.dns_message.specs.Reads.{typed, record_of, question_at, questions_at, record_at, records_at, body_in, only_question, serial_in, serial_held, seen}
use Rattle.dns_message.specs.Opt.{opt_said}
use Rattle.dns_message.specs.declared.edns.Edns.{Edns}
use Rattle.dns_message.specs.declared.edns.OptFault.{OptFault}
use Rattle.dns_message.specs.declared.query.Head.{Head}
use Rattle.dns_message.specs.declared.query.Question.{Question}
use Rattle.dns_message.specs.declared.query.Parsed.{Parsed}
use Rattle.dns_message.specs.declared.query.Parsed.TheVariants.{Silent, Fault}
use Rattle.dns_message.specs.declared.update.Update.{Update}
use Rattle.dns_message.specs.Request.{query_of, update_of}
use Rattle.dns_rdata.specs.declared.numbers.Rcode.TheVariants.{NotImp}

-- what OPTs say
abbrev pub Said : Type 0
Said = Result (Option Edns) OptFault

-- what is said where these parts of the octets are known: whether they are silent, the header, what stands behind it in a
-- query, and in an update
abbrev pub judged : Bool → Head → Option (Question × Option Serial × Said) → Option (Result Update (Question × OptFault)) → Parsed
judged silent head asked update =
    if silent then Silent
    else if head.opcode == 0 then query_of head asked
    else if head.opcode == 5 then update_of head update
    else Fault head NotImp

-- the position behind records
abbrev pub place_of : List Entry × ℕ → ℕ
place_of r = r.1

-- some of the records were passed over
pub record IsPast (count : ℕ) (msg : List ℕ) (at done place : ℕ) : Type 0 where
  pub is : option_map place_of (records_at count msg at) ≡ option_map place_of (records_at (count - done) msg place)

-- what is read behind one record, with it in front
abbrev pub behind_one : ℕ → List ℕ → Option (Entry × ℕ) → Option (List Entry × ℕ)
behind_one count msg o = option_and_then (λ r. option_map (λ rest. (r.0 ∷ rest.0, rest.1)) (records_at count msg r.1)) o

pub next_one : (count : ℕ) (msg : List ℕ) (place : ℕ) → records_at (suc count) msg place ≡ behind_one count msg (record_at msg place)
unfolding records_at
next_one count msg place = refl

pub left : (count done : ℕ) → done < count → count - done ≡ suc (count - (done + 1))
left count done h = omega arith

pub IsPast-start : (count : ℕ) (msg : List ℕ) (at : ℕ) → IsPast count msg at 0 at
IsPast-start count msg at = record { is = ap (λ n. option_map place_of (records_at n msg at)) (omega arith) }

same_place : (e : Entry) (o : Option (List Entry × ℕ)) → option_map place_of (option_map (λ rest. (e ∷ rest.0, rest.1)) o) ≡ option_map place_of o
same_place e None = refl
same_place e (Some r) = refl

step_one : (count : ℕ) (msg : List ℕ) (o : Option (Entry × ℕ)) (e : Entry) (next : ℕ) → o ≡ Some (e, next) → option_map place_of (behind_one count msg o) ≡ option_map place_of (records_at count msg next)
step_one count msg o e next is = ap (λ p. option_map place_of (behind_one count msg p)) is ∙ same_place e (records_at count msg next)

pub IsPast-one : (count : ℕ) (msg : List ℕ) (at done place : ℕ) (e : Entry) (next : ℕ) → IsPast count msg at done place → done < count → record_at msg place ≡ Some (e, next) → IsPast count msg at (done + 1) next
IsPast-one count msg at done place e next past more is = record {
  is =
      past.is
      ∙ ap (λ n. option_map place_of (records_at n msg place)) (left count done more)
      ∙ ap (option_map place_of) (next_one (count - (done + 1)) msg place)
      ∙ step_one (count - (done + 1)) msg (record_at msg place) e next is;
}

pub IsPast-stop : (count : ℕ) (msg : List ℕ) (at done place : ℕ) → IsPast count msg at done place → done < count → record_at msg place ≡ None → option_map place_of (records_at count msg at) ≡ None
IsPast-stop count msg at done place past more is =
    past.is
    ∙ ap (λ n. option_map place_of (records_at n msg place)) (left count done more)
    ∙ ap (option_map place_of) (next_one (count - (done + 1)) msg place)
    ∙ ap (λ o. option_map place_of (behind_one (count - (done + 1)) msg o)) is

none_left : (msg : List ℕ) (place : ℕ) → option_map place_of (records_at 0 msg place) ≡ Some place
unfolding records_at
none_left msg place = refl

pub IsPast-end : (count : ℕ) (msg : List ℕ) (at done place : ℕ) → IsPast count msg at done place → count ≤ done → option_map place_of (records_at count msg at) ≡ Some place
IsPast-end count msg at done place past all =
    past.is
    ∙ ap (λ n. option_map place_of (records_at n msg place)) (omega arith)
    ∙ none_left msg place

-- what is seen of an authority section: the serial that the one who asks holds, and where the section ends
abbrev pub holding : List ℕ → Question → List Entry × ℕ → Option Serial × ℕ
holding msg q r = (serial_held msg q r.0, r.1)

abbrev pub held_at : List ℕ → Question → ℕ → Option (Option Serial × ℕ)
held_at msg q at = option_map (holding msg q) (records_at (number_at msg 8) msg at)

-- where the records end that a count at a position of the header tells, and what their OPTs say
abbrev pub end_at : List ℕ → ℕ → ℕ → Option ℕ
end_at msg count at = option_map place_of (records_at (number_at msg count) msg at)

abbrev pub heard : List Entry × ℕ → Said
heard r = opt_said r.0

abbrev pub said_at : List ℕ → ℕ → ℕ → Option Said
said_at msg count at = option_map heard (records_at (number_at msg count) msg at)

additional_seen : (msg : List ℕ) (q : Question) (answer authority : List Entry) (o : Option (List Entry × ℕ)) → option_and_then (seen msg) (option_map (λ additional. record { questions = q ∷ []; answer = answer; authority = authority; additional = additional.0 }) o) ≡ option_map (λ s. (q, serial_held msg q authority, s)) (option_map heard o)
additional_seen msg q answer authority None = refl
additional_seen msg q answer authority (Some r) = refl

-- behind no record is the position itself
pub none_behind : (msg : List ℕ) (count at : ℕ) → count ≡ 0 → Some at ≡ option_map place_of (records_at count msg at)
unfolding records_at
none_behind msg count at e = sym (ap (λ n. option_map place_of (records_at n msg at)) e)

-- what is seen step by step
abbrev pub behind_authority : List ℕ → Question → Option (Option Serial × ℕ) → Option (Question × Option Serial × Said)
behind_authority msg q o = option_and_then (λ n. option_map (λ s. (q, n.0, s)) (said_at msg 10 n.1)) o

abbrev pub behind_answer : List ℕ → Question → Option ℕ → Option (Question × Option Serial × Said)
behind_answer msg q o = option_and_then (λ a. behind_authority msg q (held_at msg q a)) o

abbrev pub behind_question : List ℕ → Option (Question × ℕ) → Option (Question × Option Serial × Said)
behind_question msg o = option_and_then (λ q. behind_answer msg q.0 (end_at msg 6 q.1)) o

-- what stands behind questions, where they are read
abbrev behind_authorities : List ℕ → List Question → List Entry → Option (List Entry × ℕ) → Option Body
behind_authorities msg qs answer o = option_and_then (λ authority. option_map (λ additional. record { questions = qs; answer = answer; authority = authority.0; additional = additional.0 }) (records_at (number_at msg 10) msg authority.1)) o

abbrev behind_answers : List ℕ → List Question → Option (List Entry × ℕ) → Option Body
behind_answers msg qs o = option_and_then (λ answer. behind_authorities msg qs answer.0 (records_at (number_at msg 8) msg answer.1)) o

abbrev behind_questions : List ℕ → Option (List Question × ℕ) → Option Body
behind_questions msg o = option_and_then (λ questions. behind_answers msg questions.0 (records_at (number_at msg 6) msg questions.1)) o

authority_seen : (msg : List ℕ) (q : Question) (answer : List Entry) (o : Option (List Entry × ℕ)) → option_and_then (seen msg) (behind_authorities msg (q ∷ []) answer o) ≡ behind_authority msg q (option_map (holding msg q) o)
authority_seen msg q answer None = refl
authority_seen msg q answer (Some r) = additional_seen msg q answer r.0 (records_at (number_at msg 10) msg r.1)

answer_seen : (msg : List ℕ) (q : Question) (o : Option (List Entry × ℕ)) → option_and_then (seen msg) (behind_answers msg (q ∷ []) o) ≡ behind_answer msg q (option_map place_of o)
answer_seen msg q None = refl
answer_seen msg q (Some r) = authority_seen msg q r.0 (records_at (number_at msg 8) msg r.1)

-- behind one question
one_more : List ℕ → Option (Question × ℕ) → Option (List Question × ℕ)
one_more msg o = option_and_then (λ q. option_map (λ rest. (q.0 ∷ rest.0, rest.1)) (questions_at 0 msg q.1)) o

question_seen : (msg : List ℕ) (o : Option (Question × ℕ)) → option_and_then (seen msg) (behind_questions msg (one_more msg o)) ≡ behind_question msg o
unfolding one_more questions_at
question_seen msg None = refl
question_seen msg (Some r) = answer_seen msg r.0 (records_at (number_at msg 6) msg r.1)

seen_one : (msg : List ℕ) → number_at msg 4 ≡ 1 → option_and_then (seen msg) (body_in msg) ≡ behind_question msg (question_at msg 12)
unfolding body_in one_more questions_at
seen_one msg one = ap (λ n. option_and_then (seen msg) (behind_questions msg (questions_at n msg 12))) one ∙ question_seen msg (question_at msg 12)

-- as many questions are read as are counted
counted_more : (count : ℕ) (msg : List ℕ) (q : Question) (at : ℕ) (o : Option (List Question × ℕ)) → questions_at count msg at ≡ o → (qs : List Question) (next : ℕ) → ((at : ℕ) (others : List Question) (end : ℕ) → questions_at count msg at ≡ Some (others, end) → length others ≡ count) → option_map {U = List Question × ℕ} (λ rest. (q ∷ rest.0, rest.1)) o ≡ Some (qs, next) → length qs ≡ suc count
counted_more count msg q at None was qs next all e = cc
counted_more count msg q at (Some r) was qs next all e =
    let both : (q ∷ r.0, r.1) ≡ (qs, next) = cc in
    ap (λ (p : List Question × ℕ). length p.0) (sym both) ∙ ap suc (all at r.0 r.1 was)

counted_one : (count : ℕ) (msg : List ℕ) (o : Option (Question × ℕ)) (qs : List Question) (next : ℕ) → ((at : ℕ) (others : List Question) (end : ℕ) → questions_at count msg at ≡ Some (others, end) → length others ≡ count) → option_and_then {U = List Question × ℕ} (λ q. option_map (λ rest. (q.0 ∷ rest.0, rest.1)) (questions_at count msg q.1)) o ≡ Some (qs, next) → length qs ≡ suc count
counted_one count msg None qs next all e = cc
counted_one count msg (Some r) qs next all e = counted_more count msg r.0 r.1 (questions_at count msg r.1) refl qs next all e

counted : (count : ℕ) (msg : List ℕ) (at : ℕ) (qs : List Question) (next : ℕ) → questions_at count msg at ≡ Some (qs, next) → length qs ≡ count
unfolding questions_at
counted zero msg at qs next e =
    let both : ([], at) ≡ (qs, next) = cc in
    ap (λ (p : List Question × ℕ). length p.0) (sym both)
counted (suc count) msg at qs next e = counted_one count msg (question_at msg at) qs next (counted count msg) e

only_none : (qs : List Question) → length qs ≢ 1 → only_question qs ≡ None
only_none [] h = refl
only_none (q ∷ []) h = absurd (h refl)
only_none (q ∷ r ∷ qs) h = refl

-- of another number of questions nothing is seen
additional_none : (msg : List ℕ) (qs : List Question) (answer authority : List Entry) (o : Option (List Entry × ℕ)) → only_question qs ≡ None → option_and_then (seen msg) (option_map (λ additional. record { questions = qs; answer = answer; authority = authority; additional = additional.0 }) o) ≡ None
additional_none msg qs answer authority None e = refl
additional_none msg qs answer authority (Some r) e = ap (option_map (λ question. (question, serial_held msg question authority, opt_said r.0))) e

authority_none : (msg : List ℕ) (qs : List Question) (answer : List Entry) (o : Option (List Entry × ℕ)) → only_question qs ≡ None → option_and_then (seen msg) (behind_authorities msg qs answer o) ≡ None
authority_none msg qs answer None e = refl
authority_none msg qs answer (Some r) e = additional_none msg qs answer r.0 (records_at (number_at msg 10) msg r.1) e

answer_none : (msg : List ℕ) (qs : List Question) (o : Option (List Entry × ℕ)) → only_question qs ≡ None → option_and_then (seen msg) (behind_answers msg qs o) ≡ None
answer_none msg qs None e = refl
answer_none msg qs (Some r) e = authority_none msg qs r.0 (records_at (number_at msg 8) msg r.1) e

questions_none : (msg : List ℕ) (count : ℕ) (o : Option (List Question × ℕ)) → questions_at count msg 12 ≡ o → count ≢ 1 → option_and_then (seen msg) (behind_questions msg o) ≡ None
questions_none msg count None e h = refl
questions_none msg count (Some r) e h = answer_none msg r.0 (records_at (number_at msg 6) msg r.1) (only_none r.0 (λ one. h (sym (counted count msg 12 r.0 r.1 e) ∙ one)))

pub seen_none : (msg : List ℕ) (count : ℕ) → count ≡ number_at msg 4 → count ≢ 1 → option_and_then (seen msg) (body_in msg) ≡ None
unfolding body_in
seen_none msg count reported ne = questions_none msg (number_at msg 4) (questions_at (number_at msg 4) msg 12) refl (λ e. ne (reported ∙ e))

pub seen_question : (msg : List ℕ) (count : ℕ) (o : Option (Question × ℕ)) → count ≡ number_at msg 4 → count ≡ 1 → o ≡ question_at msg 12 → option_and_then (seen msg) (body_in msg) ≡ behind_question msg o
seen_question msg count o reported one e = seen_one msg (sym reported ∙ one) ∙ ap (behind_question msg) (sym e)

pub seen_section : (msg : List ℕ) (k count at : ℕ) (o : Option ℕ) → count ≡ number_at msg k → o ≡ option_map place_of (records_at count msg at) → end_at msg k at ≡ o
seen_section msg k count at o reported e = ap (λ n. option_map place_of (records_at n msg at)) (sym reported) ∙ sym e

pub seen_answer : (msg : List ℕ) (one count : ℕ) (o : Option (Question × ℕ)) (q : Question) (at : ℕ) (r : Option ℕ) → one ≡ number_at msg 4 → one ≡ 1 → o ≡ question_at msg 12 → o ≡ Some (q, at) → count ≡ number_at msg 6 → r ≡ option_map place_of (records_at count msg at) → option_and_then (seen msg) (body_in msg) ≡ behind_answer msg q r
seen_answer msg one count o q at r reported is e was counted f =
    seen_question msg one o reported is e ∙ ap (behind_question msg) was ∙ ap (behind_answer msg q) (seen_section msg 6 count at r counted f)

pub seen_authority : (msg : List ℕ) (count : ℕ) (q : Question) (before : Option ℕ) (r : Option (Option Serial × ℕ)) (at : ℕ) → option_and_then (seen msg) (body_in msg) ≡ behind_answer msg q before → before ≡ Some at → count ≡ number_at msg 8 → r ≡ option_map (holding msg q) (records_at count msg at) → option_and_then (seen msg) (body_in msg) ≡ behind_authority msg q r
seen_authority msg count q before r at front was counted f =
    front
    ∙ ap (behind_answer msg q) was
    ∙ ap (λ n. behind_authority msg q (option_map (holding msg q) (records_at n msg at))) (sym counted)
    ∙ ap (behind_authority msg q) (sym f)

pub seen_additional : (msg : List ℕ) (count : ℕ) (q : Question) (before : Option (Option Serial × ℕ)) (r : Option Said) (serial : Option Serial) (at : ℕ) → option_and_then (seen msg) (body_in msg) ≡ behind_authority msg q before → before ≡ Some (serial, at) → count ≡ number_at msg 10 → r ≡ option_map heard (records_at count msg at) → option_and_then (seen msg) (body_in msg) ≡ option_map (λ s. (q, serial, s)) r
seen_additional msg count q before r serial at front was counted f =
    front
    ∙ ap (behind_authority msg q) was
    ∙ ap (λ n. option_map (λ s. (q, serial, s)) (option_map heard (records_at n msg at))) (sym counted)
    ∙ ap (option_map (λ s. (q, serial, s))) (sym f)

not_true : (b : Bool) → not b ≡ true → b ≡ false
not_true true e = cc
not_true false e = refl

not_false : (b : Bool) → not b ≡ false → b ≡ true
not_false true e = refl
not_false false e = cc

-- no serial, and that none is held whether it is asked for or not
abbrev no_serial : Option Serial
no_serial = None

pub none_held : (asks : Bool) → (if asks then no_serial else no_serial) ≡ no_serial
none_held true = refl
none_held false = refl

-- where no IXFR is asked for, no serial is held
pub held_unasked : (msg : List ℕ) (q : Question) (o : Option (List Entry × ℕ)) (next : ℕ) → not (q.rtype.0 == type_IXFR) ≡ true → option_map place_of o ≡ Some next → option_map (holding msg q) o ≡ Some (None, next)
held_unasked msg q None next asks e = cc
held_unasked msg q (Some r) next asks e =
    let unasked : (q.rtype.0 == type_IXFR) ≡ false = not_true (q.rtype.0 == type_IXFR) asks in
    let place : r.1 ≡ next = cc in
    ap (λ b. Some (if b then serial_in msg q.name r.0 else None, r.1)) unasked
    ∙ ap (λ (n : ℕ). Some (no_serial, n)) place

-- nor where there are other than one record
ends_same : (msg : List ℕ) (q : Question) (o : Option (List Entry × ℕ)) (next : ℕ) → option_map place_of o ≡ Some next → option_map {U = Option Serial × ℕ} (λ r. (None, r.1)) o ≡ Some (None, next)
ends_same msg q None next e = cc
ends_same msg q (Some r) next e =
    let place : r.1 ≡ next = cc in
    ap (λ (n : ℕ). Some (no_serial, n)) place

abbrev in_front : Entry → Option (List Entry × ℕ) → Option (List Entry × ℕ)
in_front a o = option_map (λ rest. (a ∷ rest.0, rest.1)) o

third_held : (msg : List ℕ) (q : Question) (a b : Entry) (o : Option (List Entry × ℕ)) → option_map (holding msg q) (in_front a (in_front b o)) ≡ option_map {U = Option Serial × ℕ} (λ r. (None, r.1)) (in_front a (in_front b o))
third_held msg q a b None = refl
third_held msg q a b (Some r) = ap (λ (s : Option Serial). Some (s, r.1)) (none_held (q.rtype.0 == type_IXFR))

second_held : (msg : List ℕ) (q : Question) (count : ℕ) (a : Entry) (o : Option (Entry × ℕ)) → option_map (holding msg q) (in_front a (behind_one count msg o)) ≡ option_map {U = Option Serial × ℕ} (λ r. (None, r.1)) (in_front a (behind_one count msg o))
second_held msg q count a None = refl
second_held msg q count a (Some b) = third_held msg q a b.0 (records_at count msg b.1)

first_held : (msg : List ℕ) (q : Question) (count : ℕ) (o : Option (Entry × ℕ)) → option_map (holding msg q) (behind_one (suc count) msg o) ≡ option_map {U = Option Serial × ℕ} (λ r. (None, r.1)) (behind_one (suc count) msg o)
unfolding records_at
first_held msg q count None = refl
first_held msg q count (Some a) = second_held msg q count a.0 (record_at msg a.1)

many_held : (msg : List ℕ) (q : Question) (count at : ℕ) → count ≢ 1 → option_map (holding msg q) (records_at count msg at) ≡ option_map {U = Option Serial × ℕ} (λ r. (None, r.1)) (records_at count msg at)
unfolding records_at
many_held msg q zero at h = ap (λ (s : Option Serial). Some (s, at)) (none_held (q.rtype.0 == type_IXFR))
many_held msg q (suc zero) at h = absurd (h refl)
many_held msg q (suc (suc count)) at h = first_held msg q count (record_at msg at)

pub held_of_many : (msg : List ℕ) (q : Question) (count at next : ℕ) → count ≢ 1 → option_map place_of (records_at count msg at) ≡ Some next → option_map (holding msg q) (records_at count msg at) ≡ Some (None, next)
held_of_many msg q count at next h e = many_held msg q count at h ∙ ends_same msg q (records_at count msg at) next e

-- of one record the serial is that of an SOA at the name
one_held : (msg : List ℕ) (q : Question) (o : Option (Entry × ℕ)) (next : ℕ) (serial : Option Serial) → not (q.rtype.0 == type_IXFR) ≡ false → option_map place_of (behind_one 0 msg o) ≡ Some next → serial ≡ option_and_then (λ r. serial_in msg q.name (r.0 ∷ [])) o → option_map (holding msg q) (behind_one 0 msg o) ≡ Some (serial, next)
unfolding records_at
one_held msg q None next serial asks e is = cc
one_held msg q (Some r) next serial asks e is =
    let asked : (q.rtype.0 == type_IXFR) ≡ true = not_false (q.rtype.0 == type_IXFR) asks in
    let place : r.1 ≡ next = cc in
    ap (λ b. Some (if b then serial_in msg q.name (r.0 ∷ []) else None, r.1)) asked
    ∙ ap (λ (s : Option Serial). Some (s, r.1)) (sym is)
    ∙ ap (λ (n : ℕ). Some (serial, n)) place

pub held_of_one : (msg : List ℕ) (q : Question) (count at next : ℕ) (serial : Option Serial) → not (q.rtype.0 == type_IXFR) ≡ false → count ≡ 1 → option_map place_of (records_at count msg at) ≡ Some next → serial ≡ option_and_then (λ r. serial_in msg q.name (r.0 ∷ [])) (record_at msg at) → option_map (holding msg q) (records_at count msg at) ≡ Some (serial, next)
unfolding records_at
held_of_one msg q count at next serial asks one e is =
    ap (λ n. option_map (holding msg q) (records_at n msg at)) one
    ∙ one_held msg q (record_at msg at) next serial asks (ap (λ n. option_map place_of (records_at n msg at)) (sym one) ∙ e) is

-- a record that was passed over
pub record IsPassed (msg : List ℕ) (at rtype next : ℕ) : Type 0 where
  pub entry : Entry
  pub is_present : record_at msg at ≡ Some (entry, next)
  pub rtype_is : entry.rtype ≡ rtype

passed_by : (msg : List ℕ) (at rtype next : ℕ) (o : Option (Entry × ℕ)) → record_at msg at ≡ o → Some (rtype, next) ≡ option_map typed o → IsPassed msg at rtype next
passed_by msg at rtype next None is e = absurd (cc)
passed_by msg at rtype next (Some r) is e =
    let both : (rtype, next) ≡ typed r = cc in
    let place : r.1 ≡ next = ap (λ (t : ℕ × ℕ). t.1) (sym both) in
    record {
      entry = r.0;
      is_present = is ∙ ap (λ n. Some (r.0, n)) place;
      rtype_is = ap (λ (t : ℕ × ℕ). t.0) (sym both);
    }

typed_none : (o : Option (Entry × ℕ)) → None ≡ option_map typed o → o ≡ None
typed_none None e = refl
typed_none (Some r) e = absurd (cc)

abbrev pub numbers : RType × ℕ → ℕ × ℕ
numbers r = (r.0.0, r.1)

pub IsPassed-at : (msg : List ℕ) (at : ℕ) (found : Option (RType × ℕ)) (rtype : RType) (next : ℕ) → option_map numbers found ≡ option_map typed (record_at msg at) → found ≡ Some (rtype, next) → IsPassed msg at rtype.0 next
IsPassed-at msg at found rtype next is e = passed_by msg at rtype.0 next (record_at msg at) refl (sym (ap (option_map numbers) e) ∙ is)

pub not_passed : (msg : List ℕ) (at : ℕ) (found : Option (RType × ℕ)) → option_map numbers found ≡ option_map typed (record_at msg at) → found ≡ None → record_at msg at ≡ None
not_passed msg at found is e = typed_none (record_at msg at) (sym (ap (option_map numbers) e) ∙ is)

pub IsPast-passed : (count : ℕ) (msg : List ℕ) (at done place rtype next : ℕ) → IsPast count msg at done place → done < count → IsPassed msg place rtype next → IsPast count msg at (done + 1) next
IsPast-passed count msg at done place rtype next past more one = IsPast-one count msg at done place one.entry next past more one.is_present

-- the type of a record behind its owner
found_by : (msg : List ℕ) (next : ℕ) (found : Option (RType × ℕ)) (o : Result (Name × ℕ) NameReadFault) → Some next ≡ behind_of o → ((owner : Name) → option_map numbers found ≡ option_map typed (record_of msg (Ok (owner, next)))) → option_map numbers found ≡ option_map typed (record_of msg o)
found_by msg next found (Err fault) e is = absurd (cc)
found_by msg next found (Ok r) e is =
    let place : next ≡ r.1 = cc in
    is r.0 ∙ ap (λ n. option_map typed (record_of msg (Ok (r.0, n)))) place

pub type_found : (msg : List ℕ) (at next : ℕ) (found : Option (RType × ℕ)) → Some next ≡ behind_of (name_at msg at) → ((owner : Name) → option_map numbers found ≡ option_map typed (record_of msg (Ok (owner, next)))) → option_map numbers found ≡ option_map typed (record_at msg at)
type_found msg at next found e is = found_by msg next found (name_at msg at) e is
