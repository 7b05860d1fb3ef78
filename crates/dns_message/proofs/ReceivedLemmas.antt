-- How the messages of a transfer are read.
use Rattle.std.proofs.Common.{subst, Result, Ok, Err, ◌≡◌, ◌||◌, ◌==◌, not, nat_lt, cond, true, false, length, ℕ, zero, suc, ◌+◌, ◌-◌, ◌<◌, ◌≤◌, Bool, List, [], ◌∷◌, ◌++◌, map, append_assoc, Option, Some, None, refl, sym, ap, ◌∙◌, arith, option_map, option_and_then}
use Rattle.std.proofs.lemmas.List.{append-nil, length-map}
use Rattle.dns_name.specs.Name.{Name}
use Rattle.dns_rdata.specs.Raw.{RawRecord}
use Rattle.wire_names.specs.NameAt.{name_at}
use Rattle.wire_names.specs.Sizes.{behind_of}
use Rattle.wire_names.specs.declared.part.NameReadFault.{NameReadFault}
use Rattle.dns_message.specs.Message.{Entry, number_at}
use Rattle.dns_message.specs.Reads.{question_of, question_at, questions_at, record_at, records_at, body_in, is_reply}
use Rattle.dns_message.specs.Received.{received, rcode_of, received_records, HasAnswerAt}
use Rattle.dns_message.specs.declared.query.Question.{Question}
use Rattle.dns_message.proofs.ReadLemmas.{place_of}

left : (count done : ℕ) → done < count → count - done ≡ suc (count - (done + 1))
left count done h = omega arith

-- the position behind questions
abbrev pub place_behind : Option (List Question × ℕ) → Option ℕ
place_behind o = option_map (λ r. r.1) o

-- some of the questions were passed over
pub record IsBehind (count : ℕ) (msg : List ℕ) (at done place : ℕ) : Type 0 where
  pub is : place_behind (questions_at count msg at) ≡ place_behind (questions_at (count - done) msg place)

pub IsBehind-start : (count : ℕ) (msg : List ℕ) (at : ℕ) → IsBehind count msg at 0 at
IsBehind-start count msg at = record { is = ap (λ n. place_behind (questions_at n msg at)) (omega arith) }

one_question : (count : ℕ) (msg : List ℕ) (place next : ℕ) (q : Question) → question_at msg place ≡ Some (q, next) → questions_at (suc count) msg place ≡ option_map (λ rest. (q ∷ rest.0, rest.1)) (questions_at count msg next)
unfolding questions_at
one_question count msg place next q e = rw (e, questions_at) refl

no_question : (count : ℕ) (msg : List ℕ) (place : ℕ) → question_at msg place ≡ None → questions_at (suc count) msg place ≡ None
unfolding questions_at
no_question count msg place e = rw (e, questions_at) refl

same_place : (q : Question) (o : Option (List Question × ℕ)) → place_behind (option_map (λ rest. (q ∷ rest.0, rest.1)) o) ≡ place_behind o
same_place q None = refl
same_place q (Some r) = refl

pub IsBehind-one : (count : ℕ) (msg : List ℕ) (at done place : ℕ) (q : Question) (next : ℕ) → IsBehind count msg at done place → done < count → question_at msg place ≡ Some (q, next) → IsBehind count msg at (done + 1) next
IsBehind-one count msg at done place q next on more e = record {
  is =
      on.is
      ∙ ap (λ n. place_behind (questions_at n msg place)) (left count done more)
      ∙ ap place_behind (one_question (count - (done + 1)) msg place next q e)
      ∙ same_place q (questions_at (count - (done + 1)) msg next);
}

pub IsBehind-stop : (count : ℕ) (msg : List ℕ) (at done place : ℕ) → IsBehind count msg at done place → done < count → question_at msg place ≡ None → place_behind (questions_at count msg at) ≡ None
IsBehind-stop count msg at done place on more e =
    on.is
    ∙ ap (λ n. place_behind (questions_at n msg place)) (left count done more)
    ∙ ap place_behind (no_question (count - (done + 1)) msg place e)

-- the same by a question's end alone
abbrev end_of : Question × ℕ → ℕ
end_of q = q.1

passed_by : (count : ℕ) (msg : List ℕ) (at done place next : ℕ) (o : Option (Question × ℕ)) → IsBehind count msg at done place → done < count → question_at msg place ≡ o → Some next ≡ option_map end_of o → IsBehind count msg at (done + 1) next
passed_by count msg at done place next None on more is e = absurd (cc)
passed_by count msg at done place next (Some r) on more is e =
    let same : next ≡ r.1 = cc in
    subst (IsBehind count msg at (done + 1)) (sym same) (IsBehind-one count msg at done place r.0 r.1 on more is)

pub IsBehind-passed : (count : ℕ) (msg : List ℕ) (at done place : ℕ) (found : Option ℕ) (next : ℕ) → IsBehind count msg at done place → done < count → found ≡ option_map end_of (question_at msg place) → found ≡ Some next → IsBehind count msg at (done + 1) next
IsBehind-passed count msg at done place found next on more is e = passed_by count msg at done place next (question_at msg place) on more refl (sym e ∙ is)

no_end : (o : Option (Question × ℕ)) → option_map end_of o ≡ None → o ≡ None
no_end None e = refl
no_end (Some r) e = absurd (cc)

pub IsBehind-unread : (count : ℕ) (msg : List ℕ) (at done place : ℕ) (found : Option ℕ) → IsBehind count msg at done place → done < count → found ≡ option_map end_of (question_at msg place) → found ≡ None → place_behind (questions_at count msg at) ≡ None
IsBehind-unread count msg at done place found on more is e = IsBehind-stop count msg at done place on more (no_end (question_at msg place) (sym is ∙ e))

-- the end of a question after its name
question_found_by : (msg : List ℕ) (next : ℕ) (found : Option ℕ) (o : Result (Name × ℕ) NameReadFault) → Some next ≡ behind_of o → ((name : Name) → found ≡ option_map end_of (question_of msg (Ok (name, next)))) → found ≡ option_map end_of (question_of msg o)
question_found_by msg next found (Err fault) e is = absurd (cc)
question_found_by msg next found (Ok r) e is =
    let place : next ≡ r.1 = cc in
    is r.0 ∙ ap (λ n. option_map end_of (question_of msg (Ok (r.0, n)))) place

pub question_found : (msg : List ℕ) (at next : ℕ) (found : Option ℕ) → Some next ≡ behind_of (name_at msg at) → ((name : Name) → found ≡ option_map end_of (question_of msg (Ok (name, next)))) → found ≡ option_map end_of (question_at msg at)
question_found msg at next found e is = question_found_by msg next found (name_at msg at) e is

none_left : (msg : List ℕ) (place : ℕ) → place_behind (questions_at 0 msg place) ≡ Some place
unfolding questions_at
none_left msg place = refl

pub IsBehind-end : (count : ℕ) (msg : List ℕ) (at done place : ℕ) → IsBehind count msg at done place → count ≤ done → place_behind (questions_at count msg at) ≡ Some place
IsBehind-end count msg at done place on all =
    on.is
    ∙ ap (λ n. place_behind (questions_at n msg place)) (omega arith)
    ∙ none_left msg place

-- some of the records were received
abbrev pub taken : List ℕ → List RawRecord → Option (List Entry × ℕ) → Option (List RawRecord)
taken msg own o = option_map (λ r. own ++ map (received msg) r.0) o

pub record IsTaking (count : ℕ) (msg : List ℕ) (at done place : ℕ) (own : List RawRecord) : Type 0 where
  pub is : taken msg [] (records_at count msg at) ≡ taken msg own (records_at (count - done) msg place)

pub IsTaking-start : (count : ℕ) (msg : List ℕ) (at : ℕ) → IsTaking count msg at 0 at []
IsTaking-start count msg at = record { is = ap (λ n. taken msg [] (records_at n msg at)) (omega arith) }

one_record : (count : ℕ) (msg : List ℕ) (place next : ℕ) (e : Entry) → record_at msg place ≡ Some (e, next) → records_at (suc count) msg place ≡ option_map (λ rest. (e ∷ rest.0, rest.1)) (records_at count msg next)
unfolding records_at
one_record count msg place next e is = rw (is, records_at) refl

no_record : (count : ℕ) (msg : List ℕ) (place : ℕ) → record_at msg place ≡ None → records_at (suc count) msg place ≡ None
unfolding records_at
no_record count msg place is = rw (is, records_at) refl

one_taken : (msg : List ℕ) (own : List RawRecord) (e : Entry) (o : Option (List Entry × ℕ)) → taken msg own (option_map (λ rest. (e ∷ rest.0, rest.1)) o) ≡ taken msg (own ++ received msg e ∷ []) o
one_taken msg own e None = refl
one_taken msg own e (Some r) = ap (λ (t : List RawRecord). Some t) (sym (append_assoc own (received msg e ∷ []) (map (received msg) r.0)))

pub IsTaking-one : (count : ℕ) (msg : List ℕ) (at done place : ℕ) (own : List RawRecord) (e : Entry) (next : ℕ) → IsTaking count msg at done place own → done < count → record_at msg place ≡ Some (e, next) → IsTaking count msg at (done + 1) next (own ++ received msg e ∷ [])
IsTaking-one count msg at done place own e next on more is = record {
  is =
      on.is
      ∙ ap (λ n. taken msg own (records_at n msg place)) (left count done more)
      ∙ ap (taken msg own) (one_record (count - (done + 1)) msg place next e is)
      ∙ one_taken msg own e (records_at (count - (done + 1)) msg next);
}

pub IsTaking-stop : (count : ℕ) (msg : List ℕ) (at done place : ℕ) (own : List RawRecord) → IsTaking count msg at done place own → done < count → record_at msg place ≡ None → taken msg [] (records_at count msg at) ≡ None
IsTaking-stop count msg at done place own on more is =
    on.is
    ∙ ap (λ n. taken msg own (records_at n msg place)) (left count done more)
    ∙ ap (taken msg own) (no_record (count - (done + 1)) msg place is)

no_records : (msg : List ℕ) (place : ℕ) (own : List RawRecord) → taken msg own (records_at 0 msg place) ≡ Some own
unfolding records_at
no_records msg place own = ap (λ (t : List RawRecord). Some t) (append-nil own)

pub IsTaking-end : (count : ℕ) (msg : List ℕ) (at done place : ℕ) (own : List RawRecord) → IsTaking count msg at done place own → count ≤ done → taken msg [] (records_at count msg at) ≡ Some own
IsTaking-end count msg at done place own on all =
    on.is
    ∙ ap (λ n. taken msg own (records_at n msg place)) (omega arith)
    ∙ no_records msg place own

-- what the position behind records tells of them
pub seen_at : (o : Option (List Entry × ℕ)) (next : ℕ) → option_map place_of o ≡ Some next → (l : List Entry) × (o ≡ Some (l, next))
seen_at None next e = absurd (cc)
seen_at (Some r) next e = let same : r.1 ≡ next = cc in (r.0, ap (λ (n : ℕ). Some (r.0, n)) same)

pub unseen_at : (o : Option (List Entry × ℕ)) → option_map place_of o ≡ None → o ≡ None
unseen_at None e = refl
unseen_at (Some r) e = absurd (cc)

pub placed_at : (o : Option (List Question × ℕ)) (place : ℕ) → place_behind o ≡ Some place → (l : List Question) × (o ≡ Some (l, place))
placed_at None place e = absurd (cc)
placed_at (Some r) place e = let same : r.1 ≡ place = cc in (r.0, ap (λ (n : ℕ). Some (r.0, n)) same)

pub unplaced_at : (o : Option (List Question × ℕ)) → place_behind o ≡ None → o ≡ None
unplaced_at None e = refl
unplaced_at (Some r) e = absurd (cc)

-- questions and records by what a look at them gives
pub questions_seen : (msg : List ℕ) (count place : ℕ) (o : Option ℕ) → count ≡ number_at msg 4 → o ≡ place_behind (questions_at count msg 12) → o ≡ Some place → (l : List Question) × (questions_at (number_at msg 4) msg 12 ≡ Some (l, place))
questions_seen msg count place o n read e = placed_at (questions_at (number_at msg 4) msg 12) place (ap (λ k. place_behind (questions_at k msg 12)) (sym n) ∙ sym read ∙ e)

pub questions_unseen : (msg : List ℕ) (count : ℕ) (o : Option ℕ) → count ≡ number_at msg 4 → o ≡ place_behind (questions_at count msg 12) → o ≡ None → questions_at (number_at msg 4) msg 12 ≡ None
questions_unseen msg count o n read e = unplaced_at (questions_at (number_at msg 4) msg 12) (ap (λ k. place_behind (questions_at k msg 12)) (sym n) ∙ sym read ∙ e)

pub records_seen : (msg : List ℕ) (at count all : ℕ) (o : Option ℕ) (next : ℕ) → count ≡ all → o ≡ option_map place_of (records_at count msg at) → o ≡ Some next → (l : List Entry) × (records_at all msg at ≡ Some (l, next))
records_seen msg at count all o next n read e = seen_at (records_at all msg at) next (ap (λ k. option_map place_of (records_at k msg at)) (sym n) ∙ sym read ∙ e)

pub records_unseen : (msg : List ℕ) (at count all : ℕ) (o : Option ℕ) → count ≡ all → o ≡ option_map place_of (records_at count msg at) → o ≡ None → records_at all msg at ≡ None
records_unseen msg at count all o n read e = unseen_at (records_at all msg at) (ap (λ k. option_map place_of (records_at k msg at)) (sym n) ∙ sym read ∙ e)

-- a message read section by section
module _ (msg : List ℕ) where
  pub no_questions : questions_at (number_at msg 4) msg 12 ≡ None → body_in msg ≡ None
  unfolding body_in
  no_questions e = rw (e, body_in) refl

  module _ (questions : List Question) (answer_at : ℕ) (e : questions_at (number_at msg 4) msg 12 ≡ Some (questions, answer_at)) where
    pub no_answer : records_at (number_at msg 6) msg answer_at ≡ None → body_in msg ≡ None
    unfolding body_in
    no_answer f = rw (body_in, e, f) refl

    module _ (answer : List Entry) (authority_at : ℕ) (f : records_at (number_at msg 6) msg answer_at ≡ Some (answer, authority_at)) where
      pub no_authority : records_at (number_at msg 8) msg authority_at ≡ None → body_in msg ≡ None
      unfolding body_in
      no_authority g = rw (body_in, e, f, g) refl

      module _ (authority : List Entry) (additional_at : ℕ) (g : records_at (number_at msg 8) msg authority_at ≡ Some (authority, additional_at)) where
        pub no_additional : records_at (number_at msg 10) msg additional_at ≡ None → body_in msg ≡ None
        unfolding body_in
        no_additional h = rw (body_in, e, f, g, h) refl

        pub whole : (additional : List Entry) (end : ℕ) → records_at (number_at msg 10) msg additional_at ≡ Some (additional, end) → HasAnswerAt msg answer_at
        unfolding body_in
        whole additional end h = record {
          body = record { questions = questions; answer = answer; authority = authority; additional = additional };
          next = authority_at;
          whole = rw (body_in, e, f, g, h) refl;
          answer = f;
        }

-- so many records that are read are some, where the count isn't 0
abbrev how_many : Option (List Entry × ℕ) → ℕ
how_many None = 0
how_many (Some r) = length r.0

one_behind : (r : Entry × ℕ) (o : Option (List Entry × ℕ)) (es : List Entry) (next : ℕ) → option_map {U = List Entry × ℕ} (λ rest. (r.0 ∷ rest.0, rest.1)) o ≡ Some (es, next) → 0 < length es
one_behind r None es next e = let no : ⊥ = cc in absurd no
one_behind r (Some rest) es next e = let same : suc (length rest.0) ≡ length es = ap how_many e in omega arith

some_entries : (count : ℕ) (msg : List ℕ) (at : ℕ) (es : List Entry) (next : ℕ) → 0 < count → records_at count msg at ≡ Some (es, next) → 0 < length es
unfolding records_at
some_entries zero msg at es next h e = absurd (omega arith)
some_entries (suc count) msg at es next h e = by (record_at msg at) e
  where
    by : (o : Option (Entry × ℕ)) → option_and_then {U = List Entry × ℕ} (λ r. option_map {U = List Entry × ℕ} (λ rest. (r.0 ∷ rest.0, rest.1)) (records_at count msg r.1)) o ≡ Some (es, next) → 0 < length es
    by None f = let no : ⊥ = cc in absurd no
    by (Some r) f = one_behind r (records_at count msg r.1) es next f

abbrev how_many_raw : Option (List RawRecord) → ℕ
how_many_raw None = 0
how_many_raw (Some rs) = length rs

pub answer_some : (msg : List ℕ) (at count : ℕ) → HasAnswerAt msg at → count ≡ number_at msg 6 → 0 < count → option_map (λ body. map (received msg) body.answer) (body_in msg) ≡ Some [] → ⊥
answer_some msg at count has same some f =
    let is : Some (map (received msg) has.body.answer) ≡ Some [] = sym (ap (option_map (λ body. map (received msg) body.answer)) has.whole) ∙ f in
    let none : length (map (received msg) has.body.answer) ≡ 0 = ap how_many_raw is in
    let each = length-map has.body.answer (received msg) in
    let there = some_entries (number_at msg 6) msg at has.body.answer has.next (omega arith) has.answer in
    omega arith

-- octets that are no message of a transfer have no records
pub received_some : (msg : List ℕ) → (option_map (λ body. map (received msg) body.answer) (body_in msg) ≡ Some [] → ⊥) → received_records msg ≡ Some [] → ⊥
received_some msg some e = by (nat_lt (length msg) 12 || not (is_reply msg) || not (rcode_of msg == 0)) e
  where
    by : (b : Bool) → cond b None (option_map (λ body. map (received msg) body.answer) (body_in msg)) ≡ Some [] → ⊥
    by true f = cc
    by false f = some f
