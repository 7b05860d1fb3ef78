-- Texts in quotes are read as the octets that they were written of.
use Rattle.std.proofs.Common.{◌≡◌, ℕ, ◌+◌, ◌-◌, ◌*◌, ◌/◌, ◌%◌, ◌<◌, ◌≤◌, Bool, true, false, cond, ◌||◌, ◌==◌, nat_lt, nat_le, List, [], ◌∷◌, ◌++◌, flat_map, drop, Some, refl, sym, ap, ◌∙◌, arith}
use Rattle.std.specs.Char.{is_ascii_digit}
use Rattle.std.proofs.lemmas.Bool.Decides.{nat_tests}
use Rattle.std.proofs.lemmas.List.{append-nil, append_assoc}
use Rattle.std.proofs.lemmas.List.Elements.{All-head, All-tail}
use Rattle.dns_name.specs.Text.{octet_at, digits_of}
use Rattle.record_text.specs.Strings.{unescaped}
use Rattle.record_text.specs.Text.{string_octet}
use Rattle.record_text.proofs.BackLemmas.{AreOctets}
use Rattle.record_text.proofs.StringLemmas.{whole, whole_start, whole_step, whole_end}

a_digit : (d : ℕ) → d < 10 → is_ascii_digit (48 + d) ≡ true
a_digit d h = grind (arith, nat_tests)

-- three digits after a backslash are the octet
spelt_digits : (c a b e : ℕ) (rest : List ℕ) → a < 10 → b < 10 → e < 10 → c ≡ a * 100 + b * 10 + e → c ≤ 255 → octet_at (92 ∷ (48 + a) ∷ (48 + b) ∷ (48 + e) ∷ rest) ≡ Some (c, 4)
spelt_digits c a b e rest ha hb he is small =
    let da = a_digit a ha in
    let db = a_digit b hb in
    let de = a_digit e he in
    let value : (48 + a - 48) * 100 + (48 + b - 48) * 10 + (48 + e - 48) ≡ c = omega arith in
    let fits : nat_le c 255 ≡ true = grind (arith, nat_tests) in
    rw (da, db, de, value, fits) refl

digits-first : (c : ℕ) → c < 256 → c / 100 < 10
digits-first c h = omega arith

digits-value : (c : ℕ) → c ≡ c / 100 * 100 + c / 10 % 10 * 10 + c % 10
digits-value c = omega arith

-- what spells an octet of a string is read as it
record IsSpelt (c : ℕ) (text rest : List ℕ) : Type 0 where
  len : ℕ
  some : 0 < len
  is : octet_at (text ++ rest) ≡ Some (c, len)
  behind : drop len (text ++ rest) ≡ rest

by_digits : (c : ℕ) (rest : List ℕ) → c < 256 → IsSpelt c (92 ∷ digits_of c) rest
by_digits c rest h = record {
  len = 4;
  some = omega arith;
  is = spelt_digits c (c / 100) (c / 10 % 10) (c % 10) rest (digits-first c h) (omega arith) (omega arith) (digits-value c) (omega arith);
  behind = refl;
}

quote_no_digit : (c : ℕ) → (c == 34 || c == 92) ≡ true → is_ascii_digit c ≡ false
quote_no_digit c e = grind (arith, nat_tests)

by_backslash : (c : ℕ) (rest : List ℕ) → (c == 34 || c == 92) ≡ true → IsSpelt c (92 ∷ c ∷ []) rest
by_backslash c rest e = let digit = quote_no_digit c e in record { len = 2; some = omega arith; is = rw digit refl; behind = refl }

plain_no_escape : (c : ℕ) → (c == 34 || c == 92) ≡ false → (c == 92) ≡ false
plain_no_escape c e = grind (arith, nat_tests)

is_dot : (c : ℕ) → (c == 46) ≡ true → c ≡ 46
is_dot c e = grind (arith, nat_tests)

plain_octet : (c : ℕ) (rest : List ℕ) (b : Bool) → (c == 92) ≡ false → (c == 46) ≡ b → octet_at (c ∷ rest) ≡ Some (c, 1)
plain_octet c rest true escape dot = let is = is_dot c dot in rw (escape, dot) (ap (λ (x : ℕ). Some (x, 1)) (sym is))
plain_octet c rest false escape dot = rw (escape, dot) refl

by_itself : (c : ℕ) (rest : List ℕ) → (c == 34 || c == 92) ≡ false → IsSpelt c (c ∷ []) rest
by_itself c rest e = record { len = 1; some = omega arith; is = plain_octet c rest (c == 46) (plain_no_escape c e) refl; behind = refl }

spelt_if : (outside quote : Bool) (c : ℕ) (rest : List ℕ) → c < 256 → (c == 34 || c == 92) ≡ quote → IsSpelt c (cond outside (92 ∷ digits_of c) (cond quote (92 ∷ c ∷ []) (c ∷ []))) rest
spelt_if true quote c rest h e = by_digits c rest h
spelt_if false true c rest h e = by_backslash c rest e
spelt_if false false c rest h e = by_itself c rest e

octet_spelt : (c : ℕ) (rest : List ℕ) → c < 256 → IsSpelt c (string_octet c) rest
octet_spelt c rest h = spelt_if (nat_lt c 32 || nat_lt 126 c) (c == 34 || c == 92) c rest h refl

-- a string's text is read as its octets
string_back : (own string : List ℕ) → AreOctets string → whole own (flat_map string_octet string) ≡ Some (own ++ string)
string_back own [] h = whole_end own [] refl ∙ ap Some (sym (append-nil own))
string_back own (c ∷ string) h =
    let more = flat_map string_octet string in
    let spelt = octet_spelt c more (All-head (λ (x : ℕ). x < 256) c string h) in
    whole_step own (string_octet c ++ more) c spelt.len spelt.some spelt.is
    ∙ ap (whole (own ++ c ∷ [])) spelt.behind
    ∙ string_back (own ++ c ∷ []) string (All-tail (λ (x : ℕ). x < 256) c string h)
    ∙ ap Some (append_assoc own (c ∷ []) string)

-- the octets of what is written in quotes
pub unescaped_back : (string : List ℕ) → AreOctets string → unescaped (flat_map string_octet string) ≡ Some string
unescaped_back string h = sym (whole_start (flat_map string_octet string)) ∙ string_back [] string h
