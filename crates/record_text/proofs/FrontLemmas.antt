-- What is written of a record in front of its data is read again.
use Rattle.std.proofs.Common.{◌≡◌, ℕ, ◌<◌, ◌^◌, Bool, true, false, cond, not, ◌||◌, ◌==◌, nat_lt, List, [], ◌∷◌, ◌++◌, length, get_or, flat_map, codes, decimal, Option, Some, None, option_and_then, Result, Ok, ok_or, All, refl, sym, ap, ◌∙◌, arith}
use Rattle.std.specs.List.{list_all}
use Rattle.std.specs.Char.{is_ascii_digit, digit_value}
use Rattle.std.specs.Str.Parse.{AllDigits}
use Rattle.std.proofs.lemmas.Bool.Decides.{Decides-eqb, nat_tests}
use Rattle.std.proofs.lemmas.Fmt.{decimal_is_IsNumeral, first_decimal}
use Rattle.std.proofs.lemmas.List.{append_assoc}
use Rattle.dns_name.specs.Name.{IsName}
use Rattle.dns_name.specs.Text.{digits_of, is_special, octet_text, label_text, text_of}
use Rattle.dns_rdata.specs.Data.{data_of}
use Rattle.dns_rdata.specs.Numbers.{is_metatype}
use Rattle.dns_rdata.specs.declared.numbers.Ttl.{Ttl}
use Rattle.zone_lexing.specs.Items.{begins_with}
use Rattle.zone_lexing.specs.Word.{Written}
use Rattle.zone_lexing.specs.Word.Written.{Plain}
use Rattle.record_text.specs.declared.cause.Cause.{Cause}
use Rattle.record_text.specs.declared.cause.Cause.TheVariants.{UnknownType}
use Rattle.record_text.specs.declared.front.Mark.{Mark}
use Rattle.record_text.specs.declared.front.Mark.TheVariants as mark
use Rattle.record_text.specs.Front.{Front, mark_of, front_from, front_of}
use Rattle.record_text.specs.Mnemonics.{has_zero, type_numbered, type_named, class_named, type_word}
use Rattle.record_text.specs.NameWord.{owner_of}
use Rattle.record_text.specs.Number.{are_digits, decimal_of}
use Rattle.record_text.specs.Reading.{on_ok, and_then}
use Rattle.record_text.proofs.BackLemmas.{decimal_back, number_back}
use Rattle.record_text.proofs.FieldLemmas.{name_read}
use Rattle.record_text.proofs.TypeLemmas.{IsTyped, IsTyped-data, IsNumbered, not_zero, by_word, word_numbered}

-- a label's text doesn't begin with `$`
no_dollar : (c : ℕ) → is_special c ≡ false → (c == 36) ≡ false
no_dollar c e = grind (arith, nat_tests)

dollar_if : (outside special : Bool) (c : ℕ) (more : List ℕ) → is_special c ≡ special → begins_with 36 (cond outside (92 ∷ digits_of c) (cond special (92 ∷ c ∷ []) (c ∷ [])) ++ more) ≡ false
dollar_if true special c more e = refl
dollar_if false true c more e = refl
dollar_if false false c more e = no_dollar c e

cut : (x : ℕ) (label : List ℕ) (name : List (List ℕ)) → text_of ((x ∷ label) ∷ name) ≡ octet_text x ++ ((flat_map octet_text label ++ 46 ∷ []) ++ flat_map label_text name)
cut x label name =
    let more = flat_map octet_text label in
    let rest = flat_map label_text name in
    ap (λ (os : List ℕ). os ++ rest) (append_assoc (octet_text x) more (46 ∷ [])) ∙ append_assoc (octet_text x) (more ++ 46 ∷ []) rest

pub not_directive : (name : List (List ℕ)) → begins_with 36 (text_of name) ≡ false
not_directive [] = refl
not_directive ([] ∷ name) = refl
not_directive ((x ∷ label) ∷ name) =
    ap (begins_with 36) (cut x label name) ∙ dollar_if (nat_lt x 33 || nat_lt 126 x) (is_special x) x ((flat_map octet_text label ++ 46 ∷ []) ++ flat_map label_text name) refl

pub owner_is : (name origin : List (List ℕ)) → IsName name → All (All (λ c. c < 256)) name → owner_of origin (Plain (text_of name)) ≡ Ok name
owner_is name origin is octets = name_read name origin is octets

-- the TTL
a_decimal : (c : ℕ) → digit_value c < 10 → is_ascii_digit c ≡ true
a_decimal c h = grind (arith, nat_tests)

digits_alone : (text : List ℕ) → AllDigits 10 text → list_all is_ascii_digit text ≡ true
digits_alone [] h = refl
digits_alone (c ∷ text) h = let digit = a_decimal c h.0 in let more = digits_alone text h.1 in rw (digit, more) refl

are_digits_is : (n : ℕ) → n < 2 ^ 64 → are_digits (decimal n) ≡ true
are_digits_is n small =
    let is = decimal_is_IsNumeral n small in
    let alone = digits_alone (decimal n) is.0.1 in
    let some : nat_lt 0 (length (decimal n)) ≡ true = let h = is.0.0 in grind (arith, nat_tests) in
    rw (some, alone) refl

ttl_mark : (n : ℕ) → n < 2 ^ 31 → mark_of false false (Plain (decimal n)) ≡ Ok (mark.Ttl (record { 0 = n }))
ttl_mark n h =
    let digits = are_digits_is n (omega arith) in
    rw digits (ap (λ (r : Result ℕ Cause). on_ok mark.Ttl (on_ok (λ (seconds : ℕ). record { 0 = seconds }) r)) (number_back 2147483647 n (omega arith) (omega arith)))

class_mark : mark_of true false (Plain (codes "IN")) ≡ Ok mark.Class
unfolding class_named
class_mark = refl

type_mark_is : (text : List ℕ) (rtype : ℕ) → type_named text ≡ Some rtype → mark_of true true (Plain text) ≡ Ok (mark.Type (record { 0 = rtype }))
type_mark_is text rtype e = ap (λ (o : Option ℕ). on_ok (λ (n : ℕ). mark.Type (record { 0 = n })) (ok_or o UnknownType)) e

-- the type
at_type : (rtype n : ℕ) → type_named (type_word n) ≡ Some n → (rtype == n) ≡ true → type_named (type_word rtype) ≡ Some rtype
at_type rtype n h e =
    let same = (Decides-eqb rtype n).0 e in
    ap (λ (t : ℕ). type_named (type_word t)) same ∙ h ∙ ap (λ (t : ℕ). Some t) (sym same)

zero_behind : (text : List ℕ) → 48 < get_or text 0 0 → has_zero text ≡ false
zero_behind [] h = refl
zero_behind (c ∷ text) h = grind (arith, nat_tests)

-- a type by its number, in which no zero stands in front
numbered_text : (rtype : ℕ) → IsTyped rtype → type_numbered (codes "TYPE" ++ decimal rtype) ≡ Some rtype
unfolding type_numbered
numbered_text rtype is =
    let short = is.short in
    let zero : has_zero (decimal rtype) ≡ false = zero_behind (decimal rtype) (first_decimal rtype (not_zero rtype is.own) (omega arith)) in
    ap (λ (b : Bool). cond (not b) (option_and_then (λ (n : ℕ). cond (is_metatype n) None (Some n)) (decimal_of 65535 (decimal rtype))) None) zero
    ∙ ap (option_and_then (λ (n : ℕ). cond (is_metatype n) None (Some n))) (decimal_back 65535 rtype (omega arith) (omega arith))
    ∙ ap (λ (b : Bool). cond b None (Some rtype)) is.own

other_words : (digits : List ℕ) → type_named (codes "TYPE" ++ digits) ≡ type_numbered (codes "TYPE" ++ digits)
unfolding type_named
other_words digits = refl

numbered_is : (rtype : ℕ) → IsTyped rtype → IsNumbered rtype → type_named (type_word rtype) ≡ Some rtype
numbered_is rtype is n = ap type_named (word_numbered rtype n) ∙ other_words (decimal rtype) ∙ numbered_text rtype is

pub type_is : (rtype : ℕ) (octets : List ℕ) → data_of rtype octets ≡ Some octets → type_named (type_word rtype) ≡ Some rtype
unfolding type_word type_named
type_is rtype octets is =
    let P : Type 0 = type_named (type_word rtype) ≡ Some rtype in
    by_word P rtype (at_type rtype 1 refl) (at_type rtype 2 refl) (at_type rtype 5 refl) (at_type rtype 6 refl) (at_type rtype 12 refl) (at_type rtype 15 refl) (at_type rtype 16 refl) (at_type rtype 28 refl) (at_type rtype 33 refl)
    (numbered_is rtype (IsTyped-data rtype octets octets is))

-- what stands in front of the data
abbrev next : Option Ttl → Bool → List Written → Result Mark Cause → Result Front Cause
next ttl classed words m = and_then m (λ m. elim m [
  | mark.Ttl own ↦ front_from (Some own) classed words
  | mark.Class ↦ front_from ttl true words
  | mark.Type rtype ↦ Ok (record { ttl = ttl; rtype = rtype.0; words = words })
])

pub front_is : (n rtype : ℕ) (text : List ℕ) (words : List Written) → n < 2 ^ 31 → type_named text ≡ Some rtype → front_of (Plain (decimal n) ∷ Plain (codes "IN") ∷ Plain text ∷ words) ≡ Ok (record { ttl = Some (record { 0 = n }); rtype = rtype; words = words })
front_is n rtype text words h e =
    ap (next None false (Plain (codes "IN") ∷ Plain text ∷ words)) (ttl_mark n h)
    ∙ ap (next (Some (record { 0 = n })) false (Plain text ∷ words)) class_mark
    ∙ ap (next (Some (record { 0 = n })) true words) (type_mark_is text rtype e)
