-- Words that are written of data are read as the same octets: one string, one field at a time.
use Rattle.std.proofs.Common.{◌≡◌, ℕ, zero, suc, ◌+◌, ◌-◌, ◌*◌, ◌/◌, ◌%◌, ◌^◌, ◌<◌, ◌≤◌, Bool, true, false, cond, ◌&&◌, ◌||◌, ◌==◌, nat_lt, nat_le, List, [], ◌∷◌, ◌++◌, map, flat_map, length, drop, take, All, Option, Some, None, Ok, ok_or, decimal, refl, sym, ap, ◌∙◌, arith}
use Rattle.std.specs.List.{list_all}
use Rattle.std.specs.Char.{is_ascii_digit, digit_value}
use Rattle.std.specs.Str.Parse.{AllDigits, digits_value_after}
use Rattle.std.proofs.lemmas.Bool.Decides.{nat_tests}
use Rattle.std.proofs.lemmas.Fmt.{decimal_is_IsNumeral}
use Rattle.std.proofs.lemmas.List.{append-nil, append_assoc, take-append-drop, length-take-le}
use Rattle.std.proofs.lemmas.List.Elements.{All-head, All-tail, All-take}
use Rattle.dns_name.specs.Text.{octet_at, digits_of}
use Rattle.dns_rdata.proofs.StringLemmas.{strings_behind}
use Rattle.record_text.specs.declared.cause.Cause.TheVariants.{Number}
use Rattle.record_text.specs.Number.{are_digits, value_after, value_of, decimal_of, number_of}
use Rattle.record_text.specs.Strings.{string_of, strings_of}
use Rattle.record_text.specs.Text.{string_octet, strings_in}
use Rattle.zone_lexing.specs.Word.{Written}
use Rattle.zone_lexing.specs.Word.Written.{Plain, Quoted}
use Rattle.record_text.proofs.StringLemmas.{whole, whole_start, whole_step, whole_end, string_some}

-- octets are below 256
abbrev pub AreOctets : List ℕ → Type 0
AreOctets octets = All (λ c. c < 256) octets

a_digit : (d : ℕ) → d < 10 → is_ascii_digit (48 + d) ≡ true
a_digit d h = grind (arith, nat_tests)

-- three digits behind a backslash are the octet
spelt_digits : (c a b e : ℕ) (rest : List ℕ) → a < 10 → b < 10 → e < 10 → c ≡ a * 100 + b * 10 + e → c ≤ 255 → octet_at (92 ∷ (48 + a) ∷ (48 + b) ∷ (48 + e) ∷ rest) ≡ Some (c, 4)
spelt_digits c a b e rest ha hb he is small =
    let da = a_digit a ha in
    let db = a_digit b hb in
    let de = a_digit e he in
    let value : (48 + a - 48) * 100 + (48 + b - 48) * 10 + (48 + e - 48) ≡ c = omega arith in
    let fits : nat_le c 255 ≡ true = grind (arith, nat_tests) in
    rw (da, db, de, value, fits) refl

digits-first : (c : ℕ) → c < 256 → c / 100 < 10
digits-first c h = omega arith

digits-value : (c : ℕ) → c ≡ c / 100 * 100 + c / 10 % 10 * 10 + c % 10
digits-value c = omega arith

-- what spells an octet of a string is read as it
record IsSpelt (c : ℕ) (text rest : List ℕ) : Type 0 where
  len : ℕ
  some : 0 < len
  is : octet_at (text ++ rest) ≡ Some (c, len)
  behind : drop len (text ++ rest) ≡ rest

by_digits : (c : ℕ) (rest : List ℕ) → c < 256 → IsSpelt c (92 ∷ digits_of c) rest
by_digits c rest h = record {
  len = 4;
  some = omega arith;
  is = spelt_digits c (c / 100) (c / 10 % 10) (c % 10) rest (digits-first c h) (omega arith) (omega arith) (digits-value c) (omega arith);
  behind = refl;
}

quote_no_digit : (c : ℕ) → (c == 34 || c == 92) ≡ true → is_ascii_digit c ≡ false
quote_no_digit c e = grind (arith, nat_tests)

by_backslash : (c : ℕ) (rest : List ℕ) → (c == 34 || c == 92) ≡ true → IsSpelt c (92 ∷ c ∷ []) rest
by_backslash c rest e = let digit = quote_no_digit c e in record { len = 2; some = omega arith; is = rw digit refl; behind = refl }

plain_no_escape : (c : ℕ) → (c == 34 || c == 92) ≡ false → (c == 92) ≡ false
plain_no_escape c e = grind (arith, nat_tests)

is_dot : (c : ℕ) → (c == 46) ≡ true → c ≡ 46
is_dot c e = grind (arith, nat_tests)

plain_octet : (c : ℕ) (rest : List ℕ) (b : Bool) → (c == 92) ≡ false → (c == 46) ≡ b → octet_at (c ∷ rest) ≡ Some (c, 1)
plain_octet c rest true escape dot = let is = is_dot c dot in rw (escape, dot) (ap (λ (x : ℕ). Some (x, 1)) (sym is))
plain_octet c rest false escape dot = rw (escape, dot) refl

by_itself : (c : ℕ) (rest : List ℕ) → (c == 34 || c == 92) ≡ false → IsSpelt c (c ∷ []) rest
by_itself c rest e = record { len = 1; some = omega arith; is = plain_octet c rest (c == 46) (plain_no_escape c e) refl; behind = refl }

spelt_if : (outside quote : Bool) (c : ℕ) (rest : List ℕ) → c < 256 → (c == 34 || c == 92) ≡ quote → IsSpelt c (cond outside (92 ∷ digits_of c) (cond quote (92 ∷ c ∷ []) (c ∷ []))) rest
spelt_if true quote c rest h e = by_digits c rest h
spelt_if false true c rest h e = by_backslash c rest e
spelt_if false false c rest h e = by_itself c rest e

octet_spelt : (c : ℕ) (rest : List ℕ) → c < 256 → IsSpelt c (string_octet c) rest
octet_spelt c rest h = spelt_if (nat_lt c 32 || nat_lt 126 c) (c == 34 || c == 92) c rest h refl

-- a string's text is read as its octets
string_back : (own string : List ℕ) → AreOctets string → whole own (flat_map string_octet string) ≡ Some (own ++ string)
string_back own [] h = whole_end own [] refl ∙ ap Some (sym (append-nil own))
string_back own (c ∷ string) h =
    let more = flat_map string_octet string in
    let spelt = octet_spelt c more (All-head (λ (x : ℕ). x < 256) c string h) in
    whole_step own (string_octet c ++ more) c spelt.len spelt.some spelt.is
    ∙ ap (whole (own ++ c ∷ [])) spelt.behind
    ∙ string_back (own ++ c ∷ []) string (All-tail (λ (x : ℕ). x < 256) c string h)
    ∙ ap Some (append_assoc own (c ∷ []) string)

string_read : (string : List ℕ) → AreOctets string → length string < 256 → string_of (Quoted (flat_map string_octet string)) ≡ Ok (length string ∷ string)
string_read string h short = string_some (flat_map string_octet string) string (sym (whole_start (flat_map string_octet string)) ∙ string_back [] string h) short

strings_long : (k : ℕ) (octets : List ℕ) → strings_behind k octets ≡ true → k ≤ length octets
strings_long k [] e = let is : k ≡ 0 = grind (arith, nat_tests) in omega arith
strings_long zero (n ∷ octets) e = omega arith
strings_long (suc k) (c ∷ octets) e = let more = strings_long k octets e in omega arith

-- the words of strings
abbrev pub string_words : List (List ℕ) → List Written
string_words strings = map (λ string. Quoted (flat_map string_octet string)) strings

-- strings that fill octets are read back
pub strings_back : (k : ℕ) (octets : List ℕ) → strings_behind k octets ≡ true → AreOctets octets → strings_of (string_words (strings_in k octets)) ≡ Ok (drop k octets)
strings_back zero [] e h = refl
strings_back (suc k) [] e h = refl
strings_back zero (n ∷ octets) e h =
    let tail = All-tail (λ (x : ℕ). x < 256) n octets h in
    let head = All-head (λ (x : ℕ). x < 256) n octets h in
    let long = strings_long n octets e in
    let len = length-take-le n octets long in
    let short : length (take n octets) < 256 = omega arith in
    let first = string_read (take n octets) (All-take (λ (x : ℕ). x < 256) n octets tail) short in
    let more = strings_back n octets e tail in
    let whole = take-append-drop n octets in
    let is : length (take n octets) ∷ (take n octets ++ drop n octets) ≡ n ∷ octets = cc in
    rw (first, more) (ap Ok is)
strings_back (suc k) (c ∷ octets) e h = strings_back k octets e (All-tail (λ (x : ℕ). x < 256) c octets h)

-- decimal digits are read as their number
a_decimal : (c : ℕ) → digit_value c < 10 → (is_ascii_digit c ≡ true) × (digit_value c ≡ c - 48)
a_decimal c h = (grind (arith, nat_tests), grind (arith, nat_tests))

digits_alone : (text : List ℕ) → AllDigits 10 text → list_all is_ascii_digit text ≡ true
digits_alone [] h = refl
digits_alone (c ∷ text) h = let first = a_decimal c h.0 in let digit = first.0 in let more = digits_alone text h.1 in rw (digit, more) refl

value_back : (n : ℕ) (text : List ℕ) → AllDigits 10 text → value_after n text ≡ digits_value_after 10 n text
value_back n [] h = refl
value_back n (c ∷ text) h =
    let first = a_decimal c h.0 in
    ap (λ (d : ℕ). value_after (n * 10 + d) text) (sym first.1) ∙ value_back (n * 10 + digit_value c) text h.1

-- a text writes a number in decimal digits
pub record IsDecimal (n : ℕ) (text : List ℕ) : Type 0 where
  pub digits : are_digits text ≡ true
  pub value : value_of text ≡ n

pub decimal_read : (n : ℕ) → n < 2 ^ 64 → IsDecimal n (decimal n)
decimal_read n small =
    let is = decimal_is_IsNumeral n small in
    let alone = digits_alone (decimal n) is.0.1 in
    let some : nat_lt 0 (length (decimal n)) ≡ true = let h = is.0.0 in grind (arith, nat_tests) in
    record { digits = rw (some, alone) refl; value = value_back 0 (decimal n) is.0.1 ∙ is.1 }

decimal_by : (most n : ℕ) (text : List ℕ) → IsDecimal n text → n ≤ most → decimal_of most text ≡ Some n
unfolding decimal_of
decimal_by most n text is fits =
    let within : nat_le n most ≡ true = grind (arith, nat_tests) in
    let test : (are_digits text && nat_le (value_of text) most) ≡ true = ap (λ (b : Bool). b && nat_le (value_of text) most) is.digits ∙ ap (λ (v : ℕ). nat_le v most) is.value ∙ within in
    ap (λ (b : Bool). cond b (Some (value_of text)) None) test ∙ ap (λ (v : ℕ). Some v) is.value

pub decimal_back : (most n : ℕ) → n ≤ most → n < 2 ^ 64 → decimal_of most (decimal n) ≡ Some n
decimal_back most n fits small = decimal_by most n (decimal n) (decimal_read n small) fits

pub number_back : (most n : ℕ) → n ≤ most → n < 2 ^ 64 → number_of most (Plain (decimal n)) ≡ Ok n
number_back most n fits small = ap (λ (o : Option ℕ). ok_or o Number) (decimal_back most n fits small)
