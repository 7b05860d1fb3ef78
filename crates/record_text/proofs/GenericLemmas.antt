-- Data behind `\#`: how many octets there are, and their digits.
use Rattle.std.proofs.Common.{◌≡◌, ℕ, zero, suc, ◌+◌, ◌-◌, ◌*◌, ◌/◌, ◌%◌, ◌<◌, ◌≤◌, Bool, true, false, cond, not, ◌&&◌, ◌==◌, nat_lt, nat_le, List, [], ◌∷◌, ◌++◌, length, drop, slice_index, decimal, All, Option, Some, None, Result, Ok, Err, refl, sym, ap, subst, ◌∙◌, arith}
use Rattle.std.specs.Char.{digit_value}
use Rattle.std.specs.Fmt.{digits, digits_onto, digit_glyph}
use Rattle.std.specs.Str.Parse.{AllDigits}
use Rattle.std.proofs.lemmas.Bool.Decides.{nat_tests, Decides-eqb}
use Rattle.std.proofs.lemmas.List.{append_assoc, append-nil, drop_all}
use Rattle.hex.proofs.Pairs.{encode_with-drop}
use Rattle.std.proofs.lemmas.List.Elements.{All-nil, All-cons, All-head, All-tail}
use Rattle.hex.specs.Hex.{decode_of, decode_pairs, digit_or_error, encode_with, encode_lower, hex_digit_value, lower_digits, ◌>>=◌}
use Rattle.hex.specs.declared.error.FromHexError.{FromHexError}
use Rattle.hex.specs.declared.error.FromHexError.TheVariants.{OddLength}
use Rattle.zone_lexing.specs.Items.{ends}
use Rattle.zone_lexing.proofs.RunLemmas.{of_word, Passes, both_pass, octet_passes}
use Rattle.record_text.proofs.BackLemmas.{AreOctets}
use Rattle.record_text.proofs.NumberLemmas.{by_test}

-- a number of any size is written in digits, one or more
low_digit : (n : ℕ) → digit_value (digit_glyph false (n % 10)) < 10
low_digit n =
    let low : n % 10 < 10 = omega arith in
    let t : nat_lt (n % 10) 10 ≡ true = grind (arith, nat_tests) in
    rw t (decimal_digit (n % 10) low)
  where
    decimal_digit : (d : ℕ) → d < 10 → digit_value (48 + d) < 10
    decimal_digit d h = grind (arith, nat_tests)

digits_onto-digits : (k n : ℕ) (acc : List ℕ) → AllDigits 10 acc → AllDigits 10 (digits_onto k 10 false n acc)
digits_onto-digits zero n acc h = h
digits_onto-digits (suc k) n acc h =
    let more : AllDigits 10 (digit_glyph false (n % 10) ∷ acc) = (low_digit n, h) in
    by_test (λ b. AllDigits 10 (cond b (digit_glyph false (n % 10) ∷ acc) (digits_onto k 10 false (n / 10) (digit_glyph false (n % 10) ∷ acc)))) (n / 10 == 0)
    (λ _. more) (λ _. digits_onto-digits k (n / 10) (digit_glyph false (n % 10) ∷ acc) more)

digits_onto-grows : (k n : ℕ) (acc : List ℕ) → length acc ≤ length (digits_onto k 10 false n acc)
digits_onto-grows zero n acc = omega arith
digits_onto-grows (suc k) n acc =
    let rest = digits_onto-grows k (n / 10) (digit_glyph false (n % 10) ∷ acc) in
    by_test (λ b. length acc ≤ length (cond b (digit_glyph false (n % 10) ∷ acc) (digits_onto k 10 false (n / 10) (digit_glyph false (n % 10) ∷ acc)))) (n / 10 == 0)
    (λ _. omega arith) (λ _. omega arith)

digits_onto-some : (k n : ℕ) (acc : List ℕ) → 0 < length (digits_onto (suc k) 10 false n acc)
digits_onto-some k n acc =
    let rest = digits_onto-grows k (n / 10) (digit_glyph false (n % 10) ∷ acc) in
    by_test (λ b. 0 < length (cond b (digit_glyph false (n % 10) ∷ acc) (digits_onto k 10 false (n / 10) (digit_glyph false (n % 10) ∷ acc)))) (n / 10 == 0)
    (λ _. omega arith) (λ _. omega arith)

pub decimal_digits : (n : ℕ) → AllDigits 10 (decimal n)
unfolding digits
decimal_digits n = digits_onto-digits 64 n [] tt

pub decimal_some : (n : ℕ) → 0 < length (decimal n)
unfolding digits
decimal_some n = digits_onto-some 63 n []

-- the sixteen digits end no word, and are of ASCII
abbrev is_plain : ℕ → Bool
is_plain c = nat_lt c 128 && (not (c == 10) && (not (c == 13) && (not (ends of_word false c) && not (c == 92))))

abbrev are_plain : ℕ → Bool
are_plain zero = true
are_plain (suc n) = is_plain (slice_index lower_digits n) && are_plain n

first_true : (a b : Bool) → (a && b) ≡ true → a ≡ true
first_true true b e = refl
first_true false b e = e

second_true : (a b : Bool) → (a && b) ≡ true → b ≡ true
second_true true b e = e
second_true false b e = cc

not_true : (a : Bool) → not a ≡ true → a ≡ false
not_true true e = sym e
not_true false e = refl

are_plain-at : (n d : ℕ) → are_plain n ≡ true → d < n → is_plain (slice_index lower_digits d) ≡ true
are_plain-at zero d e h = absurd (omega arith)
are_plain-at (suc n) d e h =
    by_test (λ b. (d == n) ≡ b → is_plain (slice_index lower_digits d) ≡ true) (d == n)
    (λ _ same. ap (λ (k : ℕ). is_plain (slice_index lower_digits k)) ((Decides-eqb d n).0 same) ∙ first_true (is_plain (slice_index lower_digits n)) (are_plain n) e)
    (λ _ other. are_plain-at n d (second_true (is_plain (slice_index lower_digits n)) (are_plain n) e) (below d n h other)) refl
  where
    below : (d n : ℕ) → d < suc n → (d == n) ≡ false → d < n
    below d n h e = grind (arith, nat_tests)

-- a digit is such
pub record IsPlain (c : ℕ) : Type 0 where
  pub ascii : c < 128
  pub passes : Passes of_word (c ∷ [])

IsPlain-from : (c : ℕ) → is_plain c ≡ true → IsPlain c
IsPlain-from c e =
    let low = first_true (nat_lt c 128) (not (c == 10) && (not (c == 13) && (not (ends of_word false c) && not (c == 92)))) e in
    let rest = second_true (nat_lt c 128) (not (c == 10) && (not (c == 13) && (not (ends of_word false c) && not (c == 92)))) e in
    let behind = second_true (not (c == 10)) (not (c == 13) && (not (ends of_word false c) && not (c == 92))) rest in
    let last = second_true (not (c == 13)) (not (ends of_word false c) && not (c == 92)) behind in
    record {
      ascii = below c low;
      passes = octet_passes of_word c (not_true (c == 10) (first_true (not (c == 10)) (not (c == 13) && (not (ends of_word false c) && not (c == 92))) rest))
          (not_true (c == 13) (first_true (not (c == 13)) (not (ends of_word false c) && not (c == 92)) behind))
          (not_true (ends of_word false c) (first_true (not (ends of_word false c)) (not (c == 92)) last))
          (not_true (c == 92) (second_true (not (ends of_word false c)) (not (c == 92)) last));
    }
  where
    below : (c : ℕ) → nat_lt c 128 ≡ true → c < 128
    below c e = grind (arith, nat_tests)

pub digit_plain : (d : ℕ) → d < 16 → IsPlain (slice_index lower_digits d)
digit_plain d h = IsPlain-from (slice_index lower_digits d) (are_plain-at 16 d refl h)

-- so octets in digits end no word
pub digits_pass : (octets : List ℕ) → AreOctets octets → Passes of_word (encode_lower octets)
unfolding encode_with
digits_pass [] h = λ more. refl
digits_pass (octet ∷ octets) h =
    let small = All-head (λ (c : ℕ). c < 256) octet octets h in
    both_pass of_word (slice_index lower_digits (octet / 16) ∷ []) (slice_index lower_digits (octet % 16) ∷ encode_lower octets) (digit_plain (octet / 16) (omega arith)).passes
    (both_pass of_word (slice_index lower_digits (octet % 16) ∷ []) (encode_lower octets) (digit_plain (octet % 16) (omega arith)).passes
    (digits_pass octets (All-tail (λ (c : ℕ). c < 256) octet octets h)))

-- what digits are read as is octets
abbrev IsSmall : Option ℕ → Type 0
IsSmall None = Unit {0}
IsSmall (Some v) = v < 16

small_by : (b : Bool) (v : ℕ) (o : Option ℕ) → (b ≡ true → v < 16) → IsSmall o → IsSmall (cond b (Some v) o)
small_by true v o h k = h refl
small_by false v o h k = k

upper_small : (c : ℕ) → (nat_le 65 c && nat_le c 70) ≡ true → c - 55 < 16
upper_small c e = grind (arith, nat_tests)

lower_small : (c : ℕ) → (nat_le 97 c && nat_le c 102) ≡ true → c - 87 < 16
lower_small c e = grind (arith, nat_tests)

digit_small : (c : ℕ) → (nat_le 48 c && nat_le c 57) ≡ true → c - 48 < 16
digit_small c e = grind (arith, nat_tests)

value_small : (c : ℕ) → IsSmall (hex_digit_value c)
value_small c =
    small_by (nat_le 65 c && nat_le c 70) (c - 55) _ (upper_small c)
    (small_by (nat_le 97 c && nat_le c 102) (c - 87) _ (lower_small c)
    (small_by (nat_le 48 c && nat_le c 57) (c - 48) None (digit_small c) tt))

abbrev pub DecodesOctets : Result (List ℕ) FromHexError → Type 0
DecodesOctets (Ok octets) = AreOctets octets
DecodesOctets (Err fault) = Unit {0}

pair_octets : (high low : Option ℕ) (c d i : ℕ) (more : Result (List ℕ) FromHexError) → IsSmall high → IsSmall low → DecodesOctets more → DecodesOctets ((digit_or_error c i high >>= (λ h. digit_or_error d (i + 1) low >>= (λ l. Ok (h * 16 + l)))) >>= (λ octet. more >>= (λ octets. Ok (octet ∷ octets))))
pair_octets None low c d i more h k m = tt
pair_octets (Some x) None c d i more h k m = tt
pair_octets (Some x) (Some y) c d i (Ok octets) h k m = All-cons (λ (o : ℕ). o < 256) (x * 16 + y) octets (omega arith) m
pair_octets (Some x) (Some y) c d i (Err fault) h k m = tt

pairs_octets : (i : ℕ) (text : List ℕ) → DecodesOctets (decode_pairs i text)
unfolding decode_pairs
pairs_octets i [] = All-nil (λ (o : ℕ). o < 256)
pairs_octets i (c ∷ []) = tt
pairs_octets i (c ∷ d ∷ text) = pair_octets (hex_digit_value c) (hex_digit_value d) c d i (decode_pairs (i + 2) text) (value_small c) (value_small d) (pairs_octets (i + 2) text)

pub decode_octets : (text : List ℕ) → DecodesOctets (decode_of text)
decode_octets text = by_test (λ b. DecodesOctets (cond b (Err OddLength) (decode_pairs 0 text))) (length text % 2 == 1) (λ _. tt) (λ _. pairs_octets 0 text)

-- one octet more is written
pub digits_more : (t₀ t₁ t₂ octets : List ℕ) (i a b : ℕ) → i < length octets → a ≡ slice_index lower_digits (slice_index octets i / 16) → b ≡ slice_index lower_digits (slice_index octets i % 16) → t₁ ≡ t₀ ++ a ∷ [] → t₂ ≡ t₁ ++ b ∷ [] → t₂ ++ encode_lower (drop (i + 1) octets) ≡ t₀ ++ encode_lower (drop i octets)
digits_more t₀ t₁ t₂ octets i a b h high low first second =
    let rest = encode_lower (drop (i + 1) octets) in
    let step = encode_with-drop lower_digits octets i h in
    let is : a ∷ b ∷ rest ≡ encode_lower (drop i octets) = cc in
    ap (λ (t : List ℕ). t ++ rest) second ∙ append_assoc t₁ (b ∷ []) rest
    ∙ ap (λ (t : List ℕ). t ++ b ∷ rest) first ∙ append_assoc t₀ (a ∷ []) (b ∷ rest)
    ∙ ap (λ (t : List ℕ). t₀ ++ t) is

pub digits_end : (text octets : List ℕ) (i : ℕ) → length octets ≤ i → text ++ encode_lower (drop i octets) ≡ text
unfolding encode_with
digits_end text octets i h = ap (λ (os : List ℕ). text ++ encode_lower os) (drop_all i octets h) ∙ append-nil text
