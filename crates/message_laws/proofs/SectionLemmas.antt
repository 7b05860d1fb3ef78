-- The sections of a written reply are read again.
use Rattle.std.proofs.Common.{◌≡◌, ℕ, zero, suc, ◌+◌, ◌<◌, ◌≤◌, ◌^◌, All, List, [], ◌∷◌, ◌++◌, length, Option, Some, None, refl, sym, ap, ◌∙◌, arith, option_map, option_and_then, length-append}
use Rattle.std.proofs.lemmas.List.{append-nil}
use Rattle.std.proofs.lemmas.List.Elements.{All-head}
use Rattle.std.proofs.lemmas.Nat.{from_be_bytes-to_be_bytes_2}
use Rattle.std.specs.Int.{to_be_bytes, from_be_bytes, w16}
use Rattle.dns_name.specs.Name.{IsName}
use Rattle.dns_rdata.specs.Record.{Record}
use Rattle.wire_names.specs.Table.{Table}
use Rattle.message_laws.specs.Again.{IsRecord, IsReply, IsReadAgain, entries_at, question_end, answer_end, authority_end, additional_end, body_written}
use Rattle.dns_message.specs.Asked.{IsQuestion}
use Rattle.dns_message.specs.Message.{Entry, Body, Message, number_at}
use Rattle.dns_message.specs.Encoding.{these, before, each}
use Rattle.dns_message.specs.Opt.{opt_part, opt_count, opt_entries}
use Rattle.dns_message.specs.Reads.{question_at, questions_at, record_at, records_at, body_in}
use Rattle.dns_message.specs.Octets.{question_octets, questions, record_octets, sections_octets, counts_in, header_octets, reply_octets}
use Rattle.dns_message.specs.declared.query.Question.{Question}
use Rattle.message_laws.proofs.AgainLemmas.{question_again, records_again, few_records, none_more}
use Rattle.dns_message.proofs.OctetsLemmas.{sections_fill}
use Rattle.message_laws.proofs.OptAgainLemmas.{opt_again}
use Rattle.dns_message.proofs.ReadLemmas.{behind_one, next_one}
use Rattle.dns_message.proofs.TrueLemmas.{IsTrueOf-nothing}
use Rattle.message_laws.proofs.ExpandedLemmas.{records_data}
use Rattle.dns_message.proofs.KeepsLemmas.{Stands, Stands-behind, Keeps, Keeps-each, Keeps-question, Keeps-records}

-- the question, where there is one
Keeps-asked : (o : Option Question) → All IsQuestion (questions o) → Keeps (each question_octets (questions o))
Keeps-asked o all = Keeps-each question_octets (questions o) (λ k d h. Keeps-question _ (all k d h).name)

one_octets : (q : Question) (table : Table) (n : ℕ) → (each question_octets (q ∷ []) table n).0 ≡ (question_octets q table n).0
unfolding each before these
one_octets q table n = append-nil _

asked_octets : (o : Option Question) (q : Question) (table : Table) (n : ℕ) → o ≡ Some q → (each question_octets (questions o) table n).0 ≡ (question_octets q table n).0
asked_octets o q table n e = ap (λ a. (each question_octets (questions a) table n).0) e ∙ one_octets q table n

pub asked_again : (o : Option Question) (q : Question) (whole front rest : List ℕ) (table : Table) (n : ℕ) → o ≡ Some q → IsQuestion q → Stands whole front ((each question_octets (questions o) table n).0 ++ rest) table n → question_at whole n ≡ Some (q, n + length (each question_octets (questions o) table n).0)
asked_again o q whole front rest table n e lawful s =
    let octets = asked_octets o q table n e in
    question_again front rest whole table n q s.at (s.is ∙ ap (λ t. front ++ (t ++ rest)) octets) s.holds lawful
    ∙ ap (λ t. Some (q, n + length t)) (sym octets)

-- one question
pub one_question : (msg : List ℕ) (n next : ℕ) (q : Question) → question_at msg n ≡ Some (q, next) → questions_at 1 msg n ≡ Some (q ∷ [], next)
unfolding questions_at
one_question msg n next q e = ap (option_and_then (λ p. option_map (λ rest. (p.0 ∷ rest.0, rest.1)) (questions_at 0 msg p.1))) e

no_question : (msg : List ℕ) (n : ℕ) → questions_at 0 msg n ≡ Some ([], n)
unfolding questions_at
no_question msg n = refl

no_octets : (table : Table) (n : ℕ) → length (each question_octets [] table n).0 ≡ 0
unfolding each these
no_octets table n = refl

-- the question is read where there is one, and none where there is none
questions_again : (o : Option Question) (whole front rest : List ℕ) (table : Table) (n : ℕ) → All IsQuestion (questions o) → Stands whole front ((each question_octets (questions o) table n).0 ++ rest) table n → questions_at (length (questions o)) whole n ≡ Some (questions o, n + length (each question_octets (questions o) table n).0)
questions_again None whole front rest table n all s = no_question whole n ∙ ap (λ k. Some ([], k)) (omega (arith, no_octets table n))
questions_again (Some q) whole front rest table n all s = one_question whole n _ q (asked_again (Some q) q whole front rest table n refl (All-head IsQuestion q [] all) s)

-- records of a section
section_again : (rs : List Record) (whole front rest : List ℕ) (table : Table) (n : ℕ) → All IsRecord rs → length whole < 2 ^ 16 → Stands whole front ((each record_octets rs table n).0 ++ rest) table n → records_at (length rs) whole n ≡ Some (entries_at rs (table, n), n + length (each record_octets rs table n).0)
section_again rs whole front rest table n all short s =
    let octets = (each record_octets rs table n).0 in
    let size : length octets ≤ length whole = omega (arith, ap length s.is, length-append front (octets ++ rest), length-append octets rest) in
    records_again rs front rest whole table n s.at s.is s.holds all (omega arith)

owners : (rs : List Record) → All IsRecord rs → All (λ r. IsName r.owner) rs
owners rs all = λ k d h. (all k d h).owner

-- the octets of the sections
unfoldable pub question_part : Message → List ℕ
question_part m = (each question_octets (questions m.question) [] 12).0

pub answer_part : Message → List ℕ
answer_part m = (each record_octets m.answer (question_end m).0 (question_end m).1).0

pub authority_part : Message → List ℕ
authority_part m = (each record_octets m.authority (answer_end m).0 (answer_end m).1).0

pub additional_part : Message → List ℕ
additional_part m = (each record_octets m.additional (authority_end m).0 (authority_end m).1).0

pub sections_parts : (m : Message) → (sections_octets m [] 12).0 ≡ question_part m ++ (answer_part m ++ (authority_part m ++ (additional_part m ++ opt_part m.rcode m.opt)))
unfolding sections_octets before these question_part answer_part authority_part additional_part
sections_parts m = refl

header : Message → List ℕ
header m = header_octets m (counts_in m)

at_question : (m : Message) → Stands (reply_octets m) (header m) (question_part m ++ (answer_part m ++ (authority_part m ++ (additional_part m ++ opt_part m.rcode m.opt)))) [] 12
unfolding header
at_question m = record { at = refl; is = ap (λ t. header m ++ t) (sections_parts m); holds = IsTrueOf-nothing (header m) }

at_answer : (m : Message) → IsReply m → Stands (reply_octets m) (header m ++ question_part m) (answer_part m ++ (authority_part m ++ (additional_part m ++ opt_part m.rcode m.opt))) (question_end m).0 (question_end m).1
unfolding question_part
at_answer m h = Stands-behind _ _ _ _ _ _ (Keeps-asked m.question h.question) (at_question m)

at_authority : (m : Message) → IsReply m → Stands (reply_octets m) ((header m ++ question_part m) ++ answer_part m) (authority_part m ++ (additional_part m ++ opt_part m.rcode m.opt)) (answer_end m).0 (answer_end m).1
unfolding answer_part
at_authority m h = Stands-behind _ _ _ _ _ _ (Keeps-records m.answer (owners m.answer h.answer)) (at_answer m h)

at_additional : (m : Message) → IsReply m → Stands (reply_octets m) (((header m ++ question_part m) ++ answer_part m) ++ authority_part m) (additional_part m ++ opt_part m.rcode m.opt) (authority_end m).0 (authority_end m).1
unfolding authority_part
at_additional m h = Stands-behind _ _ _ _ _ _ (Keeps-records m.authority (owners m.authority h.authority)) (at_authority m h)

at_opt : (m : Message) → IsReply m → Stands (reply_octets m) ((((header m ++ question_part m) ++ answer_part m) ++ authority_part m) ++ additional_part m) (opt_part m.rcode m.opt) (additional_end m).0 (additional_end m).1
unfolding additional_part
at_opt m h = Stands-behind _ _ _ _ _ _ (Keeps-records m.additional (owners m.additional h.additional)) (at_additional m h)

pub sections_again : (m : Message) → IsReply m → IsReadAgain m
unfolding question_part answer_part authority_part additional_part
sections_again m h = record {
  question = questions_again m.question _ _ _ _ _ h.question (at_question m);
  answer = section_again m.answer _ _ _ _ _ h.answer h.carried (at_answer m h);
  authority = section_again m.authority _ _ _ _ _ h.authority h.carried (at_authority m h);
  additional = section_again m.additional _ _ _ _ _ h.additional h.carried (at_additional m h);
  answer_data = records_data m.answer _ _ _ _ _ h.answer (at_answer m h);
  authority_data = records_data m.authority _ _ _ _ _ h.authority (at_authority m h);
  additional_data = records_data m.additional _ _ _ _ _ h.additional (at_additional m h);
  opt = opt_again m.rcode m.opt _ _ _ _ (at_opt m h);
}

-- what stands behind a header, where its questions are read
abbrev body_from : List ℕ → ℕ → ℕ → ℕ → Option (List Question × ℕ) → Option Body
body_from msg answers authorities additions o =
    option_and_then (λ questions.
    option_and_then (λ answer.
    option_and_then (λ authority.
    option_map (λ additional. record { questions = questions.0; answer = answer.0; authority = authority.0; additional = additional.0 })
    (records_at additions msg authority.1))
    (records_at authorities msg answer.1))
    (records_at answers msg questions.1))
    o

body_numbers : (msg : List ℕ) (asked answers authorities additions : ℕ) → number_at msg 4 ≡ asked → number_at msg 6 ≡ answers → number_at msg 8 ≡ authorities → number_at msg 10 ≡ additions → body_in msg ≡ body_from msg answers authorities additions (questions_at asked msg 12)
unfolding body_in
body_numbers msg asked answers authorities additions e0 e1 e2 e3 =
    ap (λ k. body_from msg (number_at msg 6) (number_at msg 8) (number_at msg 10) (questions_at k msg 12)) e0
    ∙ ap (λ k. body_from msg k (number_at msg 8) (number_at msg 10) (questions_at asked msg 12)) e1
    ∙ ap (λ k. body_from msg answers k (number_at msg 10) (questions_at asked msg 12)) e2
    ∙ ap (λ k. body_from msg answers authorities k (questions_at asked msg 12)) e3

-- what stands behind questions, and so on
abbrev pub after_authority : List Question → List Entry → List Entry → Option (List Entry × ℕ) → Option Body
after_authority qs answer authority o = option_map (λ additional. record { questions = qs; answer = answer; authority = authority; additional = additional.0 }) o

abbrev pub after_answer : List ℕ → ℕ → List Question → List Entry → Option (List Entry × ℕ) → Option Body
after_answer msg additions qs answer o = option_and_then (λ authority. after_authority qs answer authority.0 (records_at additions msg authority.1)) o

abbrev pub after_questions : List ℕ → ℕ → ℕ → List Question → Option (List Entry × ℕ) → Option Body
after_questions msg authorities additions qs o = option_and_then (λ answer. after_answer msg additions qs answer.0 (records_at authorities msg answer.1)) o

pub body_parts : (msg : List ℕ) (qs : List Question) (asked answers authorities additions n1 n2 n3 n4 : ℕ) (answer authority additional : List Entry) → number_at msg 4 ≡ asked → number_at msg 6 ≡ answers → number_at msg 8 ≡ authorities → number_at msg 10 ≡ additions → questions_at asked msg 12 ≡ Some (qs, n1) → records_at answers msg n1 ≡ Some (answer, n2) → records_at authorities msg n2 ≡ Some (authority, n3) → records_at additions msg n3 ≡ Some (additional, n4) → body_in msg ≡ Some (record { questions = qs; answer = answer; authority = authority; additional = additional })
body_parts msg qs asked answers authorities additions n1 n2 n3 n4 answer authority additional e0 e1 e2 e3 f0 f1 f2 f3 =
    body_numbers msg asked answers authorities additions e0 e1 e2 e3
    ∙ ap (body_from msg answers authorities additions) f0
    ∙ ap (after_questions msg authorities additions qs) f1
    ∙ ap (after_answer msg additions qs answer) f2
    ∙ ap (after_authority qs answer authority) f3

-- records, and those behind them
abbrev in_front : List Entry → Option (List Entry × ℕ) → Option (List Entry × ℕ)
in_front es o = option_map (λ r. (es ++ r.0, r.1)) o

none_in_front : (o : Option (List Entry × ℕ)) → o ≡ in_front [] o
none_in_front None = refl
none_in_front (Some r) = refl

first_in_front : (e : Entry) (es : List Entry) (o : Option (List Entry × ℕ)) → option_map (λ rest. (e ∷ rest.0, rest.1)) (in_front es o) ≡ in_front (e ∷ es) o
first_in_front e es None = refl
first_in_front e es (Some r) = refl

abbrev then_more : ℕ → List ℕ → Option (List Entry × ℕ) → Option (List Entry × ℕ)
then_more b msg o = option_and_then (λ r. in_front r.0 (records_at b msg r.1)) o

one_then_more : (b : ℕ) (msg : List ℕ) (e : Entry) (o : Option (List Entry × ℕ)) → option_map (λ rest. (e ∷ rest.0, rest.1)) (then_more b msg o) ≡ then_more b msg (option_map (λ rest. (e ∷ rest.0, rest.1)) o)
one_then_more b msg e None = refl
one_then_more b msg e (Some r) = first_in_front e r.0 (records_at b msg r.1)

behind_then_more : (a b : ℕ) (msg : List ℕ) (o : Option (Entry × ℕ)) → ((at : ℕ) → records_at (a + b) msg at ≡ then_more b msg (records_at a msg at)) → behind_one (a + b) msg o ≡ then_more b msg (behind_one a msg o)
behind_then_more a b msg None all = refl
behind_then_more a b msg (Some r) all = ap (option_map (λ rest. (r.0 ∷ rest.0, rest.1))) (all r.1) ∙ one_then_more b msg r.0 (records_at a msg r.1)

records_more : (a b : ℕ) (msg : List ℕ) (at : ℕ) → records_at (a + b) msg at ≡ then_more b msg (records_at a msg at)
records_more zero b msg at =
    ap (λ n. records_at n msg at) (omega arith)
    ∙ none_in_front (records_at b msg at)
    ∙ ap (then_more b msg) (sym (none_more msg at))
records_more (suc a) b msg at =
    ap (λ n. records_at n msg at) (omega arith)
    ∙ next_one (a + b) msg at
    ∙ behind_then_more a b msg (record_at msg at) (records_more a b msg)
    ∙ ap (then_more b msg) (sym (next_one a msg at))

-- so the additional records are read, and the OPT behind them
additional_again : (m : Message) → IsReadAgain m → records_at (length m.additional + opt_count m.opt) (reply_octets m) (authority_end m).1 ≡ Some (entries_at m.additional (authority_end m) ++ opt_entries m.rcode m.opt (additional_end m).1, length (reply_octets m))
additional_again m again =
    records_more (length m.additional) (opt_count m.opt) (reply_octets m) (authority_end m).1
    ∙ ap (then_more (opt_count m.opt) (reply_octets m)) again.additional
    ∙ ap (in_front (entries_at m.additional (authority_end m))) again.opt

-- the counts of a reply's header are read
count_again : (m : Message) (rs : List Record) (front rest : List ℕ) (table : Table) (n : ℕ) → length (reply_octets m) < 2 ^ 16 → Stands (reply_octets m) front ((each record_octets rs table n).0 ++ rest) table n → from_be_bytes w16 (to_be_bytes w16 (length rs)) ≡ length rs
count_again m rs front rest table n short s =
    let octets = (each record_octets rs table n).0 in
    from_be_bytes-to_be_bytes_2 (length rs) (omega (arith, few_records rs table n, ap length s.is, length-append front (octets ++ rest), length-append octets rest))

-- the additional records and the OPT are no more than their octets
additional_counted : (m : Message) → IsReply m → from_be_bytes w16 (to_be_bytes w16 (length m.additional + opt_count m.opt)) ≡ length m.additional + opt_count m.opt
additional_counted m h =
    let most = (sections_fill m).additional in
    let carried = h.carried in
    from_be_bytes-to_be_bytes_2 (length m.additional + opt_count m.opt) (omega arith)

questions_counted : (o : Option Question) → from_be_bytes w16 (to_be_bytes w16 (length (questions o))) ≡ length (questions o)
questions_counted None = refl
questions_counted (Some q) = refl

pub body_again : (m : Message) → IsReply m → body_in (reply_octets m) ≡ Some (body_written m)
unfolding answer_part authority_part additional_part
body_again m h =
    let again = sections_again m h in
    body_parts (reply_octets m) (questions m.question) (length (questions m.question)) (length m.answer) (length m.authority) (length m.additional + opt_count m.opt) _ _ _ _ _ _ _
    (questions_counted m.question)
    (count_again m m.answer _ _ _ _ h.carried (at_answer m h))
    (count_again m m.authority _ _ _ _ h.carried (at_authority m h))
    (additional_counted m h)
    again.question again.answer again.authority (additional_again m again)
