-- Requests of which the header and the first octets after it tell that they have no TSIG.
use Rattle.std.proofs.Common.{◌≡◌, ℕ, ◌+◌, ◌<◌, ◌≤◌, ◌⊎◌, inl, inr, ◌||◌, ◌&&◌, ◌==◌, Bool, true, false, List, [], ◌∷◌, length, Option, Some, None, option_map, option_and_then, Result, Ok, Err, refl, sym, ap, subst, ◌∙◌, arith, if◌then◌else◌}
use Rattle.std.specs.Prelude.{nat_lt, nat_le, drop, slice_index}
use Rattle.std.proofs.lemmas.List.{length-drop, drop_more}
use Rattle.std.proofs.lemmas.Bool.Decides.{nat_tests}
use Rattle.dns_name.specs.Name.{Name, wire_of}
use Rattle.dns_name.proofs.ReadLemmas.{wire_some}
use Rattle.dns_message.specs.Message.{Entry, message_limit, number_at}
use Rattle.dns_message.specs.Reads.{is_reply, question_of, question_at, questions_at, record_of, record_at, records_at}
use Rattle.dns_message.specs.Tsig.{has_tsig, last_place, additional_place, place_in}
use Rattle.dns_message.specs.declared.query.Question.{Question}
use Rattle.dns_message.specs.declared.tsig.Place.{Place}
use Rattle.dns_message.specs.declared.tsig.Place.TheVariants.{Bare, Bad, At}
use Rattle.tsig.specs.Keys.{SharedKey}
use Rattle.tsig.specs.Verification.{verified, by_place}
use Rattle.tsig.specs.declared.verifying.Verification.{Verification}
use Rattle.tsig.specs.declared.verifying.Verification.TheVariants.{Unsigned, Silent}
use Rattle.wire_names.specs.NameAt.{name_at}
use Rattle.wire_names.specs.Parts.{part_of}
use Rattle.wire_names.specs.Sizes.{size_of}
use Rattle.wire_names.specs.Spells.{closing}
use Rattle.wire_names.specs.declared.part.NameReadFault.{NameReadFault}
use Rattle.wire_names.proofs.GrammarLemmas.{computed_spelt, le_or_lt}
use Rattle.wire_names.proofs.PassLemmas.{IsPassing, Passing-start, Passing-label, size_long, run_closing}
use Rattle.signed_replies.specs.Signed.{received}
use Rattle.signed_replies.proofs.ReplyLemmas.{not_fewer}

either_so : (b : Bool) (said : Verification) → said ≡ Unsigned → (if b then Unsigned else said) ≡ Unsigned
either_so true said is = refl
either_so false said is = is

-- a request that has no TSIG by where one would stand is received as one without
pub received_bare : (keys : List SharedKey) (now : ℕ) (request : List ℕ) → 12 ≤ length request → is_reply request ≡ false → by_place keys now request (place_in request) ≡ Unsigned → received keys now request ≡ Unsigned
received_bare keys now request header asks bare =
    either_so (nat_lt message_limit (length request)) (verified keys now request)
    (ap (λ b. if b then Silent else (if is_reply request then Silent else by_place keys now request (place_in request))) (not_fewer (length request) 12 header)
    ∙ ap (λ b. if b then Silent else by_place keys now request (place_in request)) asks ∙ bare)

-- labels were passed over, if a name is there at all
abbrev pub Passes : List ℕ → ℕ → ℕ → Type 0
Passes msg at place = (r : Name × ℕ) → name_at msg at ≡ Ok r → (used : ℕ) × IsPassing msg at place used

pub passes_none : (msg : List ℕ) (at : ℕ) → Passes msg at at
passes_none msg at = λ r is. (0, Passing-start msg at)

-- a name has an octet at least
no_size : (msg : List ℕ) (at : ℕ) (r : Name × ℕ) → name_at msg at ≡ Ok r → size_of (name_at msg at) ≡ 0 → ⊥
no_size msg at r is none =
    let some = wire_some r.0 in
    let same : length (wire_of r.0) ≡ 0 = sym (ap size_of is) ∙ none in
    omega (arith, some, same)

-- what is computed by a test
pick : {T : Type 0} (b : Bool) (x y : T) → b ≡ true → (if b then x else y) ≡ x
pick b x y is = ap (λ c. if c then x else y) is

skip : {T : Type 0} (b : Bool) (x y : T) → b ≡ false → (if b then x else y) ≡ y
skip b x y is = ap (λ c. if c then x else y) is

dropped : (msg : List ℕ) (at n : ℕ) → at < length msg → slice_index msg at ≡ n → drop at msg ≡ n ∷ drop (at + 1) msg
dropped msg at n here octet = drop_more msg at 0 here ∙ ap (λ x. x ∷ drop (at + 1) msg) octet

-- an octet from 1 to 63 is a label's, where so many octets come after it
passes_by : (msg : List ℕ) (at place n used : ℕ) (r : Name × ℕ) → name_at msg at ≡ Ok r → drop place msg ≡ n ∷ drop (place + 1) msg → (n == 0) ≡ false → nat_lt n 64 ≡ true → nat_le n (length (drop (place + 1) msg)) ≡ true
    → IsPassing msg at place used → (used + (n + 2) ≤ 255) ⊎ (255 < used + (n + 2)) → (more : ℕ) × IsPassing msg at (place + (1 + n)) more
passes_by msg at place n used r is front some short whole on (inl fits) =
    (used + (n + 1), Passing-label msg at place used n on (ap part_of front ∙ skip (n == 0) _ _ some ∙ pick (nat_lt n 64) _ _ short ∙ pick (nat_le n (length (drop (place + 1) msg))) _ _ whole) fits)
passes_by msg at place n used r is front some short whole on (inr long) =
    absurd (no_size msg at r is (size_long msg at place used n on (ap part_of front ∙ skip (n == 0) _ _ some ∙ pick (nat_lt n 64) _ _ short ∙ pick (nat_le n (length (drop (place + 1) msg))) _ _ whole) long))

pub passes_label : (msg : List ℕ) (at place n : ℕ) → Passes msg at place → slice_index msg place ≡ n → 0 < n → n < 64 → place + 1 + n ≤ length msg → Passes msg at (place + (1 + n))
passes_label msg at place n on octet some short within = λ r is.
    let own = on r is in
    let left = length-drop (place + 1) msg in
    let some_is : (n == 0) ≡ false = grind (arith, nat_tests) in
    let short_is : nat_lt n 64 ≡ true = grind (arith, nat_tests) in
    let fits : n ≤ length (drop (place + 1) msg) = omega (arith, left) in
    let whole_is : nat_le n (length (drop (place + 1) msg)) ≡ true = grind (arith, nat_tests) in
    passes_by msg at place n own.0 r is (dropped msg place n (omega arith) octet) some_is short_is whole_is own.1 (le_or_lt (own.0 + (n + 2)) 255)

-- a zero octet closes the name
pub passes_closing : (msg : List ℕ) (at place : ℕ) → Passes msg at place → slice_index msg place ≡ 0 → place < length msg → (r : Name × ℕ) → name_at msg at ≡ Ok r → r.1 ≡ place + 1
passes_closing msg at place on octet here = λ r is. let own = on r is in (run_closing msg at place own.0 own.1 (ap part_of (dropped msg place 0 here octet))).behind r is

-- the root stands where a zero octet does
root_at : (msg : List ℕ) (at : ℕ) → drop at msg ≡ 0 ∷ drop (at + 1) msg → name_at msg at ≡ Ok ([], at + 1)
root_at msg at front = computed_spelt msg at (at + 1) [] (closing (ap part_of front) refl) (omega arith)

same_record : (b : Bool) (x r : Entry × ℕ) → (if b then Some x else None) ≡ Some r → x ≡ r
same_record true x r e = cc
same_record false x r e = cc

-- the type of the root's record there
pub rtype_at : (msg : List ℕ) (at rtype : ℕ) → at < length msg → slice_index msg at ≡ 0 → number_at msg (at + 1) ≡ rtype → (r : Entry × ℕ) → record_at msg at ≡ Some r → r.0.rtype ≡ rtype
rtype_at msg at rtype here octet is r found =
    ap (λ (e : Entry × ℕ). e.0.rtype) (sym (same_record _ _ r (sym (ap (record_of msg) (root_at msg at (dropped msg at 0 here octet))) ∙ found))) ∙ is

same_question : (b : Bool) (x q : Question × ℕ) → (if b then Some x else None) ≡ Some q → x ≡ q
same_question true x q e = cc
same_question false x q e = cc

-- where a question ends whose name ends there
question_ends : (msg : List ℕ) (next : ℕ) (read : Result (Name × ℕ) NameReadFault) → ((r : Name × ℕ) → read ≡ Ok r → r.1 ≡ next) → (q : Question × ℕ) → question_of msg read ≡ Some q → q.1 ≡ next + 4
question_ends msg next (Err fault) ends q e = cc
question_ends msg next (Ok r) ends q e = sym (ap (λ (x : Question × ℕ). x.1) (same_question (nat_le (r.1 + 4) (length msg)) _ q e)) ∙ ap (λ n. n + 4) (ends r refl)

-- where the TSIG is by a last record that is none
none_last : (keys : List SharedKey) (now : ℕ) (msg : List ℕ) (at : ℕ) (found : Option (Entry × ℕ)) → ((r : Entry × ℕ) → found ≡ Some r → r.0.rtype ≡ 41) → by_place keys now msg (option_map (last_place false at) found) ≡ Unsigned
none_last keys now msg at None is = refl
none_last keys now msg at (Some r) is = ap (λ n. by_place keys now msg (Some (if n == 250 then (if r.0.class == 255 && r.0.ttl == 0 then At at else Bad) else Bare))) (is r refl)

-- where the TSIG of a message stands, by how many questions and records it has
abbrev place_by : List ℕ → ℕ → ℕ → ℕ → ℕ → Option Place
place_by msg questions answers authorities additional =
    option_and_then (λ questions.
    option_and_then (λ answer.
    option_and_then (λ authority.
    additional_place msg additional authority.1 (has_tsig answer.0 || has_tsig authority.0))
    (records_at authorities msg answer.1))
    (records_at answers msg questions.1))
    (questions_at questions msg 12)

-- where it stands after one question that was read
abbrev place_after : List ℕ → Option (Question × ℕ) → Option Place
place_after msg found = option_and_then (λ q. option_map (last_place false q.1) (record_at msg q.1)) found

one_each : (msg : List ℕ) (found : Option (Question × ℕ)) → question_at msg 12 ≡ found → place_by msg 1 0 0 1 ≡ place_after msg found
unfolding records_at questions_at has_tsig
one_each msg None is = ap (λ f. option_and_then (λ (questions : List Question × ℕ).
    option_and_then (λ answer.
    option_and_then (λ authority.
    additional_place msg 1 authority.1 (has_tsig answer.0 || has_tsig authority.0))
    (records_at 0 msg answer.1))
    (records_at 0 msg questions.1))
    (option_and_then (λ (q : Question × ℕ). option_map (λ rest. (q.0 ∷ rest.0, rest.1)) (questions_at 0 msg q.1)) f)) is
one_each msg (Some q) is = ap (λ f. option_and_then (λ (questions : List Question × ℕ).
    option_and_then (λ answer.
    option_and_then (λ authority.
    additional_place msg 1 authority.1 (has_tsig answer.0 || has_tsig authority.0))
    (records_at 0 msg answer.1))
    (records_at 0 msg questions.1))
    (option_and_then (λ (q : Question × ℕ). option_map (λ rest. (q.0 ∷ rest.0, rest.1)) (questions_at 0 msg q.1)) f)) is

none_after : (keys : List SharedKey) (now : ℕ) (msg : List ℕ) (next : ℕ) (found : Option (Question × ℕ)) → ((q : Question × ℕ) → found ≡ Some q → q.1 ≡ next) → ((r : Entry × ℕ) → record_at msg next ≡ Some r → r.0.rtype ≡ 41)
    → by_place keys now msg (place_after msg found) ≡ Unsigned
none_after keys now msg next None ends is = refl
none_after keys now msg next (Some q) ends is =
    none_last keys now msg q.1 (record_at msg q.1) (λ r e. is r (subst (λ n. record_at msg n ≡ Some r) (ends q refl) e))

-- a message of one question and an OPT after it has no TSIG
pub opt_alone : (keys : List SharedKey) (now : ℕ) (msg : List ℕ) (next : ℕ) → number_at msg 4 ≡ 1 → number_at msg 6 ≡ 0 → number_at msg 8 ≡ 0 → number_at msg 10 ≡ 1
    → ((r : Name × ℕ) → name_at msg 12 ≡ Ok r → r.1 ≡ next) → ((r : Entry × ℕ) → record_at msg (next + 4) ≡ Some r → r.0.rtype ≡ 41) → by_place keys now msg (place_in msg) ≡ Unsigned
opt_alone keys now msg next questions answers authorities additional ends is =
    ap (λ n. by_place keys now msg (place_by msg n (number_at msg 6) (number_at msg 8) (number_at msg 10))) questions
    ∙ ap (λ n. by_place keys now msg (place_by msg 1 n (number_at msg 8) (number_at msg 10))) answers
    ∙ ap (λ n. by_place keys now msg (place_by msg 1 0 n (number_at msg 10))) authorities
    ∙ ap (λ n. by_place keys now msg (place_by msg 1 0 0 n)) additional
    ∙ ap (by_place keys now msg) (one_each msg (question_at msg 12) refl)
    ∙ none_after keys now msg (next + 4) (question_at msg 12) (question_ends msg next (name_at msg 12) ends) is
