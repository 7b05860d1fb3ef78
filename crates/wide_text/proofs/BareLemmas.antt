-- Octets that stand in a word as they are: none ends it, and none takes another along.
use Rattle.std.proofs.Common.{◌≡◌, ℕ, zero, suc, ◌+◌, ◌*◌, ◌/◌, ◌%◌, ◌<◌, ◌≤◌, ◌^◌, Bool, true, false, not, ◌&&◌, ◌||◌, ◌==◌, List, [], ◌∷◌, ◌++◌, length, bytes_eq, decimal, replicate, slice_index, refl, ap, ◌∙◌, arith}
use Rattle.std.specs.Char.{digit_value, is_ascii_alphanumeric}
use Rattle.std.specs.List.{list_all}
use Rattle.std.specs.Str.Parse.{AllDigits}
use Rattle.std.proofs.lemmas.Bool.Decides.{nat_tests}
use Rattle.std.proofs.lemmas.Fmt.{digits_is_IsNumeral}
use Rattle.base64.specs.Engines.{standard}
use Rattle.base64.specs.GeneralPurpose.{encode_of}
use Rattle.base64.specs.Rfc4648.{encode_symbols, padding_len}
use Rattle.hex.specs.Hex.{encode_lower, encode_with, lower_digits}
use Rattle.record_text.specs.Generic.{are_generic, generic_mark}
use Rattle.record_text.specs.Text.{group_text}
use Rattle.record_text.proofs.GenericLemmas.{decimal_digits, decimal_some}
use Rattle.zone_lexing.specs.Spelling.{is_spelt}
use Rattle.zone_lexing.specs.Word.{Written}
use Rattle.zone_lexing.specs.Word.Written.{Plain}
use Rattle.zone_lexing.proofs.RunLemmas.{Passes, both_pass, octet_passes, of_word, spelt_plain}

-- whether an octet ends a word, or takes another along
abbrev pub stops : ℕ → Bool
stops c = c == 9 || c == 10 || c == 13 || c == 32 || c == 34 || c == 40 || c == 41 || c == 59 || c == 92

abbrev pub bare : ℕ → Bool
bare c = not (stops c)

abbrev pub AreBare : List ℕ → Type 0
AreBare text = list_all bare text ≡ true

pub stops_passes : (c : ℕ) → stops c ≡ false → Passes of_word (c ∷ [])
stops_passes c e = octet_passes of_word c (grind (arith, nat_tests)) (grind (arith, nat_tests)) (grind (arith, nat_tests)) (grind (arith, nat_tests))

no_slash : (c : ℕ) → stops c ≡ false → (c == 92) ≡ false
no_slash c e = grind (arith, nat_tests)

by_stop : (s b : Bool) → (not s && b) ≡ true → (s ≡ false) × (b ≡ true)
by_stop false b e = (refl, e)
by_stop true b e = cc

cons_by : (s b : Bool) → s ≡ false → b ≡ true → (not s && b) ≡ true
cons_by false b e h = h
cons_by true b e h = cc

pub first_bare : (c : ℕ) (text : List ℕ) → AreBare (c ∷ text) → (stops c ≡ false) × AreBare text
first_bare c text h = by_stop (stops c) (list_all bare text) h

pub cons_bare : (c : ℕ) (text : List ℕ) → stops c ≡ false → AreBare text → AreBare (c ∷ text)
cons_bare c text e h = cons_by (stops c) (list_all bare text) e h

pub both_bare : (xs ys : List ℕ) → AreBare xs → AreBare ys → AreBare (xs ++ ys)
both_bare [] ys h k = k
both_bare (x ∷ xs) ys h k = let parts = first_bare x xs h in cons_bare x (xs ++ ys) parts.0 (both_bare xs ys parts.1 k)

pub bare_passes : (text : List ℕ) → AreBare text → Passes of_word text
bare_passes [] h = λ more. refl
bare_passes (c ∷ text) h = let parts = first_bare c text h in both_pass of_word (c ∷ []) text (stops_passes c parts.0) (bare_passes text parts.1)

-- such a text isn't `\#`, whatever stands after it
first_other : (c : ℕ) (text : List ℕ) → (c == 92) ≡ false → bytes_eq (c ∷ text) generic_mark ≡ false
first_other c text e = rw e refl

pub bare_other : (text more : List ℕ) → 0 < length text → AreBare text → bytes_eq (text ++ more) generic_mark ≡ false
bare_other [] more some h = absurd (omega arith)
bare_other (c ∷ text) more some h = let parts = first_bare c text h in first_other c (text ++ more) (no_slash c parts.0)

itself_other : (text : List ℕ) → 0 < length text → AreBare text → bytes_eq text generic_mark ≡ false
itself_other [] some h = absurd (omega arith)
itself_other (c ∷ text) some h = let parts = first_bare c text h in first_other c text (no_slash c parts.0)

-- a word that is spelt, and isn't `\#`
abbrev pub IsGood : Written → Type 0
IsGood word = (is_spelt word ≡ true) × ((words : List Written) → are_generic (word ∷ words) ≡ false)

pub bare_good : (text : List ℕ) → 0 < length text → AreBare text → IsGood (Plain text)
bare_good text some h = (spelt_plain text some (bare_passes text h), λ words. itself_other text some h)

pub some_front : (xs ys : List ℕ) → 0 < length xs → 0 < length (xs ++ ys)
some_front [] ys h = absurd (omega arith)
some_front (x ∷ xs) ys h = omega arith

-- digits
digit_stop : (c : ℕ) → digit_value c < 16 → stops c ≡ false
digit_stop c h = grind (arith, nat_tests)

digits_bare : (radix : ℕ) (text : List ℕ) → radix ≤ 16 → AllDigits radix text → AreBare text
digits_bare radix [] small h = refl
digits_bare radix (c ∷ text) small h =
    let first = h.0 in
    cons_bare c text (digit_stop c (omega arith)) (digits_bare radix text small h.1)

pub decimal_bare : (n : ℕ) → AreBare (decimal n)
decimal_bare n = digits_bare 10 (decimal n) (omega arith) (decimal_digits n)

pub decimal_good : (n : ℕ) → IsGood (Plain (decimal n))
decimal_good n = bare_good (decimal n) (decimal_some n) (decimal_bare n)

small_group : (n : ℕ) → n < 65536 → n < 16 ^ 64
small_group n h = omega arith

pub group_bare : (n : ℕ) → n < 65536 → AreBare (group_text n)
group_bare n h = digits_bare 16 (group_text n) (omega arith) (digits_is_IsNumeral 16 false (omega arith) (omega arith) n (small_group n h)).0.1

-- a digit of a number
pub glyph_stop : (d : ℕ) → d < 10 → stops (48 + d) ≡ false
glyph_stop d h = grind (arith, nat_tests)

-- letters and digits
letter_stop : (c : ℕ) → is_ascii_alphanumeric c ≡ true → stops c ≡ false
letter_stop c e = grind (arith, nat_tests)

pub both_parts : (a b : Bool) → (a && b) ≡ true → (a ≡ true) × (b ≡ true)
both_parts true b e = (refl, e)
both_parts false b e = cc

pub letters_bare : (text : List ℕ) → list_all is_ascii_alphanumeric text ≡ true → AreBare text
letters_bare [] h = refl
letters_bare (c ∷ text) h =
    let parts = both_parts (is_ascii_alphanumeric c) (list_all is_ascii_alphanumeric text) h in
    cons_bare c text (letter_stop c parts.0) (letters_bare text parts.1)

-- the octets of a table, at any index
pub at_bare : (t : List ℕ) (i : ℕ) → AreBare t → stops (slice_index t i) ≡ false
at_bare [] zero h = refl
at_bare [] (suc i) h = refl
at_bare (c ∷ t) zero h = (first_bare c t h).0
at_bare (c ∷ t) (suc i) h = at_bare t i (first_bare c t h).1

-- hexadecimal digits
pub hex_bare : (octets : List ℕ) → AreBare (encode_lower octets)
unfolding encode_with
hex_bare [] = refl
hex_bare (octet ∷ octets) =
    cons_bare (slice_index lower_digits (octet / 16)) (slice_index lower_digits (octet % 16) ∷ encode_lower octets) (at_bare lower_digits (octet / 16) refl)
    (cons_bare (slice_index lower_digits (octet % 16)) (encode_lower octets) (at_bare lower_digits (octet % 16) refl) (hex_bare octets))

pub hex_some : (octet : ℕ) (octets : List ℕ) → 0 < length (encode_lower (octet ∷ octets))
unfolding encode_with
hex_some octet octets = omega arith

-- base64
symbols_bare : (t m : List ℕ) → AreBare t → AreBare (encode_symbols t m)
unfolding encode_symbols
symbols_bare t [] h = refl
symbols_bare t (a ∷ []) h =
    cons_bare (slice_index t (a / 4)) (slice_index t (a % 4 * 16) ∷ []) (at_bare t (a / 4) h) (cons_bare (slice_index t (a % 4 * 16)) [] (at_bare t (a % 4 * 16) h) refl)
symbols_bare t (a ∷ b ∷ []) h =
    let second = a % 4 * 16 + b / 16 in
    let third = b % 16 * 4 in
    cons_bare (slice_index t (a / 4)) (slice_index t second ∷ slice_index t third ∷ []) (at_bare t (a / 4) h)
    (cons_bare (slice_index t second) (slice_index t third ∷ []) (at_bare t second h) (cons_bare (slice_index t third) [] (at_bare t third h) refl))
symbols_bare t (a ∷ b ∷ c ∷ rest) h =
    let second = a % 4 * 16 + b / 16 in
    let third = b % 16 * 4 + c / 64 in
    let more = encode_symbols t rest in
    cons_bare (slice_index t (a / 4)) (slice_index t second ∷ slice_index t third ∷ slice_index t (c % 64) ∷ more) (at_bare t (a / 4) h)
    (cons_bare (slice_index t second) (slice_index t third ∷ slice_index t (c % 64) ∷ more) (at_bare t second h)
    (cons_bare (slice_index t third) (slice_index t (c % 64) ∷ more) (at_bare t third h)
    (cons_bare (slice_index t (c % 64)) more (at_bare t (c % 64) h) (symbols_bare t rest h))))

padding_bare : (n : ℕ) → AreBare (replicate n 61)
padding_bare zero = refl
padding_bare (suc n) = padding_bare n

pub base64_bare : (octets : List ℕ) → AreBare (encode_of standard octets)
base64_bare octets =
    both_bare (encode_symbols standard.encode_table octets) (replicate (padding_len (length octets)) 61) (symbols_bare standard.encode_table octets refl) (padding_bare (padding_len (length octets)))

symbols_some : (t : List ℕ) (octet : ℕ) (octets : List ℕ) → 0 < length (encode_symbols t (octet ∷ octets))
unfolding encode_symbols
symbols_some t a [] = omega arith
symbols_some t a (b ∷ []) = omega arith
symbols_some t a (b ∷ c ∷ rest) = omega arith

pub base64_some : (octet : ℕ) (octets : List ℕ) → 0 < length (encode_of standard (octet ∷ octets))
base64_some octet octets =
    some_front (encode_symbols standard.encode_table (octet ∷ octets)) (replicate (padding_len (length (octet ∷ octets))) 61) (symbols_some standard.encode_table octet octets)
