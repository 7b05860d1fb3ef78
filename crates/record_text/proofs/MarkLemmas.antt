-- No word of data in a type's own form is `\#`.
use Rattle.std.proofs.Common.{◌≡◌, ℕ, ◌+◌, ◌*◌, ◌/◌, ◌^◌, ◌<◌, ◌≤◌, Bool, true, false, cond, ◌&&◌, ◌||◌, ◌==◌, nat_lt, nat_le, List, [], ◌∷◌, ◌++◌, length, take, drop, flat_map, map, decimal, bytes_eq, All, Option, Some, None, option_map, refl, sym, ap, ◌∙◌, arith}
use Rattle.std.specs.Char.{digit_value}
use Rattle.std.specs.Int.{from_be_bytes, w16, w32}
use Rattle.std.specs.Net.Addr.{segments_of}
use Rattle.std.specs.Net.Text.{dotted_text}
use Rattle.std.specs.Str.Parse.{AllDigits}
use Rattle.std.proofs.lemmas.Bool.Decides.{nat_tests}
use Rattle.std.proofs.lemmas.Fmt.{digits_is_IsNumeral}
use Rattle.std.proofs.lemmas.List.{append_assoc, append-nil}
use Rattle.std.proofs.lemmas.List.Elements.{All-head, All-drop, All-take}
use Rattle.dns_name.specs.Name.{wire_of, name_in}
use Rattle.dns_name.specs.Text.{digits_of, is_special, octet_text, label_text, text_of}
use Rattle.record_text.specs.Generic.{generic_mark, are_generic}
use Rattle.record_text.specs.Text.{word_at, words_at, group_text, groups_text}
use Rattle.record_text.specs.declared.data.Field.{Field}
use Rattle.record_text.specs.declared.data.Field.TheVariants as field
use Rattle.zone_lexing.specs.Word.{Written}
use Rattle.zone_lexing.specs.Word.Written.{Plain}
use Rattle.record_text.proofs.BackLemmas.{AreOctets, string_words}
use Rattle.record_text.proofs.GenericLemmas.{decimal_digits, decimal_some}
use Rattle.record_text.proofs.SpeltLemmas.{segments_small}

-- a text isn't that word, whatever stands behind it
abbrev IsOther : List ℕ → Type 0
IsOther text = (more : List ℕ) → bytes_eq (text ++ more) generic_mark ≡ false

more_other : (text more : List ℕ) → IsOther text → IsOther (text ++ more)
more_other text more h = λ (rest : List ℕ). ap (λ (t : List ℕ). bytes_eq t generic_mark) (append_assoc text more rest) ∙ h (more ++ rest)

itself_other : (text : List ℕ) → IsOther text → bytes_eq text generic_mark ≡ false
itself_other text h = ap (λ (t : List ℕ). bytes_eq t generic_mark) (sym (append-nil text)) ∙ h []

-- digits
no_backslash : (c : ℕ) → digit_value c < 16 → (c == 92) ≡ false
no_backslash c h = grind (arith, nat_tests)

first_other : (c : ℕ) (text : List ℕ) → (c == 92) ≡ false → bytes_eq (c ∷ text) generic_mark ≡ false
first_other c text e = rw e refl

digits_other : (radix : ℕ) (text : List ℕ) → radix ≤ 16 → 0 < length text → AllDigits radix text → IsOther text
digits_other radix [] small some h = absurd (omega arith)
digits_other radix (c ∷ text) small some h = let first = h.0 in λ (more : List ℕ). first_other c (text ++ more) (no_backslash c (omega arith))

decimal_other : (n : ℕ) → IsOther (decimal n)
decimal_other n = digits_other 10 (decimal n) (omega arith) (decimal_some n) (decimal_digits n)

small_group : (n : ℕ) → n < 65536 → n < 16 ^ 64
small_group n h = omega arith

group_other : (n : ℕ) → n < 65536 → IsOther (group_text n)
group_other n h =
    let is = digits_is_IsNumeral 16 false (omega arith) (omega arith) n (small_group n h) in
    digits_other 16 (group_text n) (omega arith) is.0.0 is.0.1

dotted_other : (a b c d : ℕ) → IsOther (dotted_text a b c d)
dotted_other a b c d =
    let dot : List ℕ = 46 ∷ [] in
    let two = more_other (decimal a ++ dot) (decimal b) (more_other (decimal a) dot (decimal_other a)) in
    let three = more_other (decimal a ++ dot ++ decimal b ++ dot) (decimal c) (more_other (decimal a ++ dot ++ decimal b) dot two) in
    more_other (decimal a ++ dot ++ decimal b ++ dot ++ decimal c ++ dot) (decimal d) (more_other (decimal a ++ dot ++ decimal b ++ dot ++ decimal c) dot three)

-- names: in a label's text neither a `#` nor a digit below it stands behind a backslash
not_hash : (c : ℕ) → is_special c ≡ true → (c == 35) ≡ false
not_hash c e = grind (arith, nat_tests)

not_slash : (c : ℕ) → is_special c ≡ false → (c == 92) ≡ false
not_slash c e = grind (arith, nat_tests)

no_digit : (d : ℕ) → (48 + d == 35) ≡ false
no_digit d = grind (arith, nat_tests)

other_if : (outside special : Bool) (c : ℕ) (more : List ℕ) → is_special c ≡ special → bytes_eq (cond outside (92 ∷ digits_of c) (cond special (92 ∷ c ∷ []) (c ∷ [])) ++ more) generic_mark ≡ false
other_if true special c more e = let no = no_digit (c / 100) in rw no refl
other_if false true c more e = let no = not_hash c e in rw no refl
other_if false false c more e = let no = not_slash c e in rw no refl

name_other : (name : List (List ℕ)) → bytes_eq (text_of name) generic_mark ≡ false
name_other [] = refl
name_other ([] ∷ name) = refl
name_other ((x ∷ label) ∷ name) =
    let more = flat_map octet_text label in
    let rest = flat_map label_text name in
    ap (λ (os : List ℕ). bytes_eq (os ++ rest) generic_mark) (append_assoc (octet_text x) more (46 ∷ []))
    ∙ ap (λ (os : List ℕ). bytes_eq os generic_mark) (append_assoc (octet_text x) (more ++ 46 ∷ []) rest)
    ∙ other_if (nat_lt x 33 || nat_lt 126 x) (is_special x) x ((more ++ 46 ∷ []) ++ rest) refl

-- the word of a field
abbrev IsOtherWord : Option (List ℕ × ℕ) → Type 0
IsOtherWord None = Unit {0}
IsOtherWord (Some word) = bytes_eq word.0 generic_mark ≡ false

name_word : (name : Option (List (List ℕ))) → IsOtherWord (option_map (λ (n : List (List ℕ)). (text_of n, length (wire_of n))) name)
name_word None = tt
name_word (Some name) = name_other name

address6_word : (long : Bool) (a b : ℕ) (octets : List ℕ) → AreOctets (a ∷ b ∷ octets) → IsOtherWord (cond long (Some (groups_text (segments_of (take 16 (a ∷ b ∷ octets))), 16)) None)
address6_word true a b octets h =
    let small = segments_small (a ∷ b ∷ take 14 octets) (All-take (λ (x : ℕ). x < 256) 16 (a ∷ b ∷ octets) h) in
    let n = a * 256 + b in
    let behind = flat_map (λ (next : ℕ). 58 ∷ group_text next) (segments_of (take 14 octets)) in
    itself_other (group_text n ++ behind) (more_other (group_text n) behind (group_other n (All-head (λ (x : ℕ). x < 65536) n (segments_of (take 14 octets)) small)))
address6_word false a b octets h = tt

word_other : (f : Field) (octets : List ℕ) → AreOctets octets → IsOtherWord (word_at f octets)
unfolding word_at
word_other field.Address (a ∷ b ∷ c ∷ d ∷ octets) h = itself_other (dotted_text a b c d) (dotted_other a b c d)
word_other field.Address [] h = tt
word_other field.Address (a ∷ []) h = tt
word_other field.Address (a ∷ b ∷ []) h = tt
word_other field.Address (a ∷ b ∷ c ∷ []) h = tt
word_other field.Address6 [] h = tt
word_other field.Address6 (a ∷ []) h = tt
word_other field.Address6 (a ∷ b ∷ octets) h = address6_word (nat_le 16 (length (a ∷ b ∷ octets))) a b octets h
word_other field.Name octets h = name_word (name_in octets)
word_other field.Short [] h = tt
word_other field.Short (a ∷ []) h = tt
word_other field.Short (a ∷ b ∷ octets) h = itself_other (decimal (from_be_bytes w16 (a ∷ b ∷ []))) (decimal_other (from_be_bytes w16 (a ∷ b ∷ [])))
word_other field.Long (a ∷ b ∷ c ∷ d ∷ octets) h = itself_other (decimal (from_be_bytes w32 (a ∷ b ∷ c ∷ d ∷ []))) (decimal_other (from_be_bytes w32 (a ∷ b ∷ c ∷ d ∷ [])))
word_other field.Long [] h = tt
word_other field.Long (a ∷ []) h = tt
word_other field.Long (a ∷ b ∷ []) h = tt
word_other field.Long (a ∷ b ∷ c ∷ []) h = tt

behind_other : (word : Option (List ℕ × ℕ)) (behind : ℕ → List Written) → IsOtherWord word → are_generic (elim word [ None ↦ [] | Some w ↦ Plain w.0 ∷ behind w.1 ]) ≡ false
behind_other None behind h = refl
behind_other (Some word) behind h = h

-- words of fields, and of strings
pub fields_other : (fields : List Field) (octets : List ℕ) → AreOctets octets → are_generic (words_at fields octets) ≡ false
fields_other [] octets h = refl
fields_other (f ∷ fields) octets h = behind_other (word_at f octets) (λ (n : ℕ). words_at fields (drop n octets)) (word_other f octets h)

pub strings_other : (strings : List (List ℕ)) → are_generic (string_words strings) ≡ false
strings_other [] = refl
strings_other (string ∷ strings) = refl
