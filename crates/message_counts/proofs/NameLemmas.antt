-- Names in full, label by label.
use Rattle.std.proofs.Common.{◌≡◌, ◌==◌, ◌≢◌, refl, ap, ◌∙◌, ℕ, zero, suc, ◌+◌, ◌<◌, ◌≤◌, arith, List, [], ◌∷◌, length, drop, Option, Some, None, nat_lt, if◌then◌else◌}
use Rattle.std.proofs.Math.ListN.{get_or}
use Rattle.std.proofs.lemmas.Bool.{ne_eqb, le-ltb, lt-ltb}
use Rattle.std.proofs.lemmas.List.{drop_all, drop_more, drop-drop}
use Rattle.message_counts.specs.Places.{name_end}

-- what a length at a position says of where the name ends
abbrev by_length : ℕ → ℕ → List ℕ → Option ℕ
by_length at len rest = if len == 0 then Some (at + 1) else if nat_lt 63 len then None else name_end (at + 1) len rest

-- the octets of a label are passed over
after_label : (at left : ℕ) (octets : List ℕ) → name_end at left octets ≡ name_end (at + left) 0 (drop left octets)
after_label at zero octets = ap (λ p. name_end p 0 octets) (omega arith)
after_label at (suc left) [] = refl
after_label at (suc left) (octet ∷ octets) = after_label (at + 1) left octets ∙ ap (λ p. name_end p 0 (drop left octets)) (omega arith)

-- a name ends at the length 0
pub ends_here : (octets : List ℕ) (at : ℕ) → at < length octets → get_or octets at 0 ≡ 0 → name_end at 0 (drop at octets) ≡ Some (at + 1)
ends_here octets at inside none =
    ap (name_end at 0) (drop_more octets at 0 inside) ∙ ap (λ len. by_length at len (drop (at + 1) octets)) none

-- a length above 63 is no label's
pub no_label : (octets : List ℕ) (at : ℕ) → at < length octets → 63 < get_or octets at 0 → name_end at 0 (drop at octets) ≡ None
no_label octets at inside long =
    let len = get_or octets at 0 in
    let some : len ≢ 0 = omega arith in
    ap (name_end at 0) (drop_more octets at 0 inside)
    ∙ (ap (λ b. if b then Some (at + 1) else (if nat_lt 63 len then None else name_end (at + 1) len (drop (at + 1) octets))) (ne_eqb len 0 some)
    ∙ ap (λ b. if b then None else name_end (at + 1) len (drop (at + 1) octets)) (lt-ltb 63 len long))

-- no name ends after the last octet
pub no_end : (octets : List ℕ) (at : ℕ) → length octets ≤ at → name_end at 0 (drop at octets) ≡ None
no_end octets at beyond = ap (name_end at 0) (drop_all at octets beyond)

-- a label of 1 to 63 octets, and what stands after it
pub passes_label : (octets : List ℕ) (at : ℕ) → at < length octets → get_or octets at 0 ≢ 0 → get_or octets at 0 ≤ 63 → name_end at 0 (drop at octets) ≡ name_end (at + (get_or octets at 0 + 1)) 0 (drop (at + (get_or octets at 0 + 1)) octets)
passes_label octets at inside some short =
    let len = get_or octets at 0 in
    let there : at + 1 + len ≡ at + (len + 1) = omega arith in
    ap (name_end at 0) (drop_more octets at 0 inside)
    ∙ (ap (λ b. if b then Some (at + 1) else (if nat_lt 63 len then None else name_end (at + 1) len (drop (at + 1) octets))) (ne_eqb len 0 some)
    ∙ (ap (λ b. if b then None else name_end (at + 1) len (drop (at + 1) octets)) (le-ltb 63 len short)
    ∙ (after_label (at + 1) len (drop (at + 1) octets)
    ∙ (ap (name_end (at + 1 + len) 0) (drop-drop len (at + 1) octets)
    ∙ ap (λ p. name_end p 0 (drop p octets)) there))))
