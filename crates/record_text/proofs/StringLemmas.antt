-- Texts whose escapes are undone octet by octet, and strings put one behind the other.
use Rattle.std.proofs.Common.{◌≡◌, ℕ, zero, suc, ◌-◌, ◌<◌, true, false, nat_le, Ok, Err, List, [], ◌∷◌, ◌++◌, length, drop, Option, Some, None, option_map, option_and_then, refl, sym, ap, ◌∙◌, arith}
use Rattle.std.proofs.lemmas.List.{append_assoc, append-nil, nil_from_length}
use Rattle.dns_name.specs.Text.{octet_at}
use Rattle.record_text.specs.Strings.{unescaped, unescaped_behind, string_in}
use Rattle.record_text.specs.declared.cause.Cause.TheVariants.{BadData}
use Rattle.std.proofs.lemmas.Bool.Decides.{nat_tests}

-- what is undone so far, and what the rest gives
abbrev pub whole : List ℕ → List ℕ → Option (List ℕ)
whole own rest = option_map (λ (behind : List ℕ). own ++ behind) (unescaped rest)

same : (o : Option (List ℕ)) → option_map (λ (behind : List ℕ). [] ++ behind) o ≡ o
same None = refl
same (Some x) = refl

pub whole_start : (text : List ℕ) → whole [] text ≡ unescaped text
whole_start text = same (unescaped text)

pub whole_end : (own rest : List ℕ) → length rest ≡ 0 → whole own rest ≡ Some own
unfolding unescaped
whole_end own rest e = rw (nil_from_length rest e) (ap Some (append-nil own))

behind-drop : (k : ℕ) (text : List ℕ) → unescaped_behind k text ≡ unescaped_behind 0 (drop k text)
behind-drop zero text = refl
behind-drop (suc k) [] = refl
behind-drop (suc k) (c ∷ text) = behind-drop k text

drop_less : (n c : ℕ) (rest : List ℕ) → 0 < n → drop n (c ∷ rest) ≡ drop (n - 1) rest
drop_less zero c rest h = absurd (omega arith)
drop_less (suc n) c rest h = let e : suc n - 1 ≡ n = omega arith in rw e

twice : (own : List ℕ) (octet : ℕ) (o : Option (List ℕ)) → option_map (λ (behind : List ℕ). own ++ behind) (option_map (λ (octets : List ℕ). octet ∷ octets) o) ≡ option_map (λ (behind : List ℕ). (own ++ octet ∷ []) ++ behind) o
twice own octet None = refl
twice own octet (Some octets) = ap Some (sym (append_assoc own (octet ∷ []) octets))

-- one octet more, and the rest behind the characters that spell it
pub whole_step : (own rest : List ℕ) (octet n : ℕ) → 0 < n → octet_at rest ≡ Some (octet, n) → whole own rest ≡ whole (own ++ octet ∷ []) (drop n rest)
unfolding unescaped
whole_step own [] octet n some e = cc
whole_step own (c ∷ rest) octet n some e =
    ap (λ (o : Option (ℕ × ℕ)). option_map (λ (behind : List ℕ). own ++ behind) (option_and_then (λ (p : ℕ × ℕ). option_map (λ (octets : List ℕ). p.0 ∷ octets) (unescaped_behind (p.1 - 1) rest)) o)) e
    ∙ twice own octet (unescaped_behind (n - 1) rest)
    ∙ ap (option_map (λ (behind : List ℕ). (own ++ octet ∷ []) ++ behind)) (behind-drop (n - 1) rest)
    ∙ ap (λ (text : List ℕ). option_map (λ (behind : List ℕ). (own ++ octet ∷ []) ++ behind) (unescaped_behind 0 text)) (sym (drop_less n c rest some))

-- a backslash has no escape behind it
pub whole_none : (own rest : List ℕ) → (length rest ≡ 0 → ⊥) → octet_at rest ≡ None → whole own rest ≡ None
unfolding unescaped
whole_none own [] some e = absurd (some refl)
whole_none own (c ∷ rest) some e =
    ap (λ (o : Option (ℕ × ℕ)). option_map (λ (behind : List ℕ). own ++ behind) (option_and_then (λ (p : ℕ × ℕ). option_map (λ (octets : List ℕ). p.0 ∷ octets) (unescaped_behind (p.1 - 1) rest)) o)) e

-- the string of a text, by what it is with its escapes undone
pub string_none : (text : List ℕ) → unescaped text ≡ None → string_in text ≡ Err BadData
unfolding string_in
string_none text e = rw (e, string_in) refl

pub string_long : (text : List ℕ) (octets : List ℕ) → unescaped text ≡ Some octets → (length octets < 256 → ⊥) → string_in text ≡ Err BadData
unfolding string_in
string_long text octets e long =
    let t : nat_le (length octets) 255 ≡ false = grind (arith, nat_tests) in
    rw (e, string_in, t) refl

pub string_some : (text : List ℕ) (octets : List ℕ) → unescaped text ≡ Some octets → length octets < 256 → string_in text ≡ Ok (length octets ∷ octets)
unfolding string_in
string_some text octets e short =
    let t : nat_le (length octets) 255 ≡ true = grind (arith, nat_tests) in
    rw (e, string_in, t) refl
