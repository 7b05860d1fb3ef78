-- The type of a question at a message's end.
use Rattle.std.proofs.Common.{◌≡◌, ◌==◌, refl, sym, ap, ◌∙◌, ℕ, ◌+◌, ◌-◌, ◌<◌, ◌≤◌, ◌≢◌, arith, List, length, Bool, true, false, ◌&&◌, Option, Some, None, nat_lt, if◌then◌else◌}
use Rattle.std.specs.Prelude.{option_and_then}
use Rattle.std.proofs.lemmas.Bool.{eq-eqb, ne_eqb, le-ltb, lt-ltb}
use Rattle.message_counts.specs.Places.{TypesAgree, asks_with, ends_with_opt, first_name_end, named_type, number_at, pair_at, question_type, type_at}

-- the type after a name that ends at a position
after_name : (octets : List ℕ) (at : ℕ) → first_name_end octets ≡ Some at → at + 2 ≤ length octets → named_type octets ≡ Some (number_at octets at)
after_name octets at name room = ap (option_and_then (type_at octets)) name ∙ ap (λ b. if b then None else Some (number_at octets at)) (le-ltb (length octets) (at + 2) room)

-- what is asked alone, or with so many additional records
asks : (octets : List ℕ) (additional : ℕ) → pair_at octets 4 ≡ 65536 → pair_at octets 8 ≡ additional → asks_with additional octets ≡ true
asks octets additional one rest = ap (λ b. b && pair_at octets 8 == additional) (eq-eqb (pair_at octets 4) 65536 one) ∙ eq-eqb (pair_at octets 8) additional rest

-- what is asked with an additional record isn't asked alone
not_alone : (octets : List ℕ) → pair_at octets 4 ≡ 65536 → pair_at octets 8 ≡ 1 → asks_with 0 octets ≡ false
not_alone octets one rest =
    let more : pair_at octets 8 ≢ 0 = omega arith in
    ap (λ b. b && pair_at octets 8 == 0) (eq-eqb (pair_at octets 4) 65536 one) ∙ ne_eqb (pair_at octets 8) 0 more

-- the type by what is known of the message: that it is long enough for a question alone which it asks, and for one before an OPT that it asks, and ends with an OPT
abbrev by_end : Bool → Bool → Bool → List ℕ → Option ℕ
by_end alone with opt octets = if alone then Some (number_at octets (length octets - 4)) else (if with && opt then Some (number_at octets (length octets - 15)) else named_type octets)

-- the same by what the octets are
by_octets : (octets : List ℕ) (alone with : Bool) → 27 < length octets → asks_with 0 octets ≡ alone → asks_with 1 octets ≡ with → question_type octets ≡ by_end alone with (ends_with_opt octets) octets
by_octets octets alone with long is_alone is_with =
    let short : 16 < length octets = omega arith in
    ap (λ b. if b && asks_with 0 octets then Some (number_at octets (length octets - 4)) else (if nat_lt 27 (length octets) && (asks_with 1 octets && ends_with_opt octets) then Some (number_at octets (length octets - 15)) else named_type octets)) (lt-ltb 16 (length octets) short)
    ∙ (ap (λ b. if asks_with 0 octets then Some (number_at octets (length octets - 4)) else (if b && (asks_with 1 octets && ends_with_opt octets) then Some (number_at octets (length octets - 15)) else named_type octets)) (lt-ltb 27 (length octets) long)
    ∙ (ap (λ b. by_end b (asks_with 1 octets) (ends_with_opt octets) octets) is_alone
    ∙ ap (λ b. by_end alone b (ends_with_opt octets) octets) is_with))

-- a question alone
alone_agrees : (octets : List ℕ) (at : ℕ) → 16 < length octets → pair_at octets 4 ≡ 65536 → first_name_end octets ≡ Some at → pair_at octets 8 ≡ 0 → at + 4 ≡ length octets → question_type octets ≡ named_type octets
alone_agrees octets at long one name none ends =
    let there : length octets - 4 ≡ at = omega arith in
    let room : at + 2 ≤ length octets = omega arith in
    let rest = if nat_lt 27 (length octets) && (asks_with 1 octets && ends_with_opt octets) then Some (number_at octets (length octets - 15)) else named_type octets in
    ap (λ b. if b && asks_with 0 octets then Some (number_at octets (length octets - 4)) else rest) (lt-ltb 16 (length octets) long)
    ∙ (ap (λ b. if b then Some (number_at octets (length octets - 4)) else rest) (asks octets 0 one none)
    ∙ (ap (λ p. Some (number_at octets p)) there ∙ sym (after_name octets at name room)))

-- a question before a record of eleven octets, by whether that is an OPT without options
before_record : (octets : List ℕ) (at : ℕ) (opt : Bool) → first_name_end octets ≡ Some at → at + 15 ≡ length octets → by_end false true opt octets ≡ named_type octets
before_record octets at true name ends =
    let there : length octets - 15 ≡ at = omega arith in
    let room : at + 2 ≤ length octets = omega arith in
    ap (λ p. Some (number_at octets p)) there ∙ sym (after_name octets at name room)
before_record octets at false name ends = refl

pub types_agree : TypesAgree
types_agree octets at one name = (
  λ long none ends. alone_agrees octets at long one name none ends,
  λ long additional ends. by_octets octets false true long (not_alone octets one additional) (asks octets 1 one additional) ∙ before_record octets at (ends_with_opt octets) name ends,
)
