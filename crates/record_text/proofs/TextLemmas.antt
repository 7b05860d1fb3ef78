-- Words of data, put one behind the other.
use Rattle.std.proofs.Common.{◌≡◌, ℕ, zero, suc, min, ◌≤◌, true, false, ◌==◌, nat_le, List, [], ◌∷◌, ◌++◌, map, flat_map, length, drop, take, Some, None, inl, inr, refl, sym, ap, ◌∙◌, arith}
use Rattle.std.proofs.lemmas.List.{append_assoc, drop_all, take_all}
use Rattle.std.proofs.lemmas.Bool.{cases_lt}
use Rattle.record_text.specs.declared.data.Field.{Field}
use Rattle.record_text.specs.declared.data.Field.TheVariants as field
use Rattle.std.specs.Net.Addr.{segments_of}
use Rattle.std.proofs.lemmas.Bool.Decides.{nat_tests}
use Rattle.record_text.specs.Data.{form_of}
use Rattle.record_text.specs.Generic.{generic_words}
use Rattle.record_text.specs.Text.{string_octet, strings_in, groups_text, word_at, words_at, words_of, text_of_words}
use Rattle.zone_lexing.specs.Word.Written.{Quoted}

-- which words a type's data has
pub words_of-fields : (rtype : ℕ) (octets : List ℕ) (fields : List Field) → false ≡ (rtype == 16) → form_of rtype ≡ Some fields → words_of rtype octets ≡ words_at fields octets
unfolding words_of
words_of-fields rtype octets fields e form = rw (sym e, form, words_of) refl

pub words_of-none : (rtype : ℕ) (octets : List ℕ) → false ≡ (rtype == 16) → form_of rtype ≡ None → words_of rtype octets ≡ generic_words octets
unfolding words_of
words_of-none rtype octets e form = rw (sym e, form, words_of) refl

pub strings_in-drop : (k : ℕ) (octets : List ℕ) → strings_in k octets ≡ strings_in 0 (drop k octets)
strings_in-drop zero octets = refl
strings_in-drop (suc k) [] = refl
strings_in-drop (suc k) (octet ∷ octets) = strings_in-drop k octets

-- what is cut at the end is cut there by the end alone
pub take_min : (n m : ℕ) (xs : List ℕ) → m ≡ min n (length xs) → take m xs ≡ take n xs
take_min n m xs e = elim (cases_lt (length xs) n) [
  | inl past ↦ (let all = take_all n xs (omega arith) in let whole = take_all m xs (omega arith) in cc)
  | inr within ↦ (let same : m ≡ n = omega arith in ap (λ (k : ℕ). take k xs) same)
]

pub drop_min : (n m : ℕ) (xs : List ℕ) → m ≡ min n (length xs) → drop m xs ≡ drop n xs
drop_min n m xs e = elim (cases_lt (length xs) n) [
  | inl past ↦ (let all = drop_all n xs (omega arith) in let whole = drop_all m xs (omega arith) in cc)
  | inr within ↦ (let same : m ≡ n = omega arith in ap (λ (k : ℕ). drop k xs) same)
]

-- the strings of octets as text
abbrev pub strings_text : List ℕ → List ℕ
strings_text octets = text_of_words (words_of 16 octets)

one_more : (n : ℕ) (behind : List ℕ) → strings_text (n ∷ behind) ≡ (32 ∷ 34 ∷ flat_map string_octet (take n behind) ++ 34 ∷ []) ++ strings_text (drop n behind)
unfolding words_of
one_more n behind = ap (λ (strings : List (List ℕ)). (32 ∷ 34 ∷ flat_map string_octet (take n behind) ++ 34 ∷ []) ++ text_of_words (map (λ (string : List ℕ). Quoted (flat_map string_octet string)) strings)) (strings_in-drop n behind)

-- one string more is written
pub strings_more : (t₀ t₁ t₂ t₃ rest behind string others : List ℕ) (n m : ℕ) → t₁ ≡ t₀ ++ 32 ∷ 34 ∷ [] → t₂ ≡ t₁ ++ flat_map string_octet string → t₃ ≡ t₂ ++ 34 ∷ [] → rest ≡ n ∷ behind → string ≡ take m behind → others ≡ drop m behind → m ≡ min n (length behind) → t₃ ++ strings_text others ≡ t₀ ++ strings_text rest
strings_more t₀ t₁ t₂ t₃ rest behind string others n m first text last is front back e =
    let cut = take_min n m behind e in
    let left = drop_min n m behind e in
    let step = one_more n behind in
    let inside = flat_map string_octet (take n behind) in
    let same : flat_map string_octet string ≡ inside = ap (flat_map string_octet) (front ∙ cut) in
    let rest_is : strings_text others ≡ strings_text (drop n behind) = ap strings_text (back ∙ left) in
    let a = append_assoc t₀ (32 ∷ 34 ∷ []) inside in
    let b = append_assoc t₀ (32 ∷ 34 ∷ inside) (34 ∷ []) in
    let d = append_assoc t₀ ((32 ∷ 34 ∷ inside) ++ 34 ∷ []) (strings_text (drop n behind)) in
    let whole = ap (λ (os : List ℕ). t₀ ++ strings_text os) is in
    let more = ap (λ (os : List ℕ). t₀ ++ os) step in
    cc

pub strings_end : (rest : List ℕ) → length rest ≡ 0 → strings_text rest ≡ []
unfolding words_of
strings_end [] e = refl
strings_end (x ∷ rest) e = absurd (omega arith)

-- an address of version 6 is written
pub address6_word : (octets : List ℕ) → 16 ≤ length octets → word_at field.Address6 octets ≡ Some (groups_text (segments_of (take 16 octets)), 16)
unfolding word_at
address6_word octets h = let t : nat_le 16 (length octets) ≡ true = grind (arith, nat_tests) in rw (t, word_at) refl
