-- Owners of records, label by label.
use Rattle.std.proofs.Common.{◌≡◌, ◌==◌, ◌≢◌, refl, ap, ◌∙◌, ℕ, zero, suc, ◌+◌, ◌<◌, ◌≤◌, arith, List, [], ◌∷◌, length, drop, Bool, false, Option, Some, None, nat_lt, if◌then◌else◌}
use Rattle.std.proofs.Math.ListN.{get_or}
use Rattle.std.proofs.lemmas.Bool.{eq-eqb, ne_eqb, le-ltb, lt-ltb}
use Rattle.std.proofs.lemmas.List.{drop_all, drop_more, drop-drop}
use Rattle.message_counts.specs.Transfers.{owner_end}

-- where an owner ends, by what is known of the length at a position: that it is 0, above 191, above 63
abbrev by_owner : Bool → Bool → Bool → ℕ → ℕ → List ℕ → Option ℕ
by_owner none pointer long at len rest = if none then Some (at + 1) else if pointer then Some (at + 2) else if long then None else owner_end (at + 1) len rest

-- the octets of a label are passed over
after_owner_label : (at left : ℕ) (octets : List ℕ) → owner_end at left octets ≡ owner_end (at + left) 0 (drop left octets)
after_owner_label at zero octets = ap (λ p. owner_end p 0 octets) (omega arith)
after_owner_label at (suc left) [] = refl
after_owner_label at (suc left) (octet ∷ octets) = after_owner_label (at + 1) left octets ∙ ap (λ p. owner_end p 0 (drop left octets)) (omega arith)

-- the owner goes on by the length at a position
by_length_there : (octets : List ℕ) (at : ℕ) → at < length octets → owner_end at 0 (drop at octets) ≡ by_owner (get_or octets at 0 == 0) (nat_lt 191 (get_or octets at 0)) (nat_lt 63 (get_or octets at 0)) at (get_or octets at 0) (drop (at + 1) octets)
by_length_there octets at inside = ap (owner_end at 0) (drop_more octets at 0 inside)

-- an owner ends at the length 0
pub owner_ends_here : (octets : List ℕ) (at : ℕ) → at < length octets → get_or octets at 0 ≡ 0 → owner_end at 0 (drop at octets) ≡ Some (at + 1)
owner_ends_here octets at inside none =
    let len = get_or octets at 0 in
    by_length_there octets at inside ∙ ap (λ b. by_owner b (nat_lt 191 len) (nat_lt 63 len) at len (drop (at + 1) octets)) (eq-eqb len 0 none)

-- an owner ends at a pointer
pub ends_by_pointer : (octets : List ℕ) (at : ℕ) → at < length octets → 191 < get_or octets at 0 → owner_end at 0 (drop at octets) ≡ Some (at + 2)
ends_by_pointer octets at inside points =
    let len = get_or octets at 0 in
    let some : len ≢ 0 = omega arith in
    by_length_there octets at inside
    ∙ (ap (λ b. by_owner b (nat_lt 191 len) (nat_lt 63 len) at len (drop (at + 1) octets)) (ne_eqb len 0 some)
    ∙ ap (λ b. by_owner false b (nat_lt 63 len) at len (drop (at + 1) octets)) (lt-ltb 191 len points))

-- another length above 63 is no label's
pub no_owner_label : (octets : List ℕ) (at : ℕ) → at < length octets → 63 < get_or octets at 0 → get_or octets at 0 ≤ 191 → owner_end at 0 (drop at octets) ≡ None
no_owner_label octets at inside long no_pointer =
    let len = get_or octets at 0 in
    let some : len ≢ 0 = omega arith in
    by_length_there octets at inside
    ∙ (ap (λ b. by_owner b (nat_lt 191 len) (nat_lt 63 len) at len (drop (at + 1) octets)) (ne_eqb len 0 some)
    ∙ (ap (λ b. by_owner false b (nat_lt 63 len) at len (drop (at + 1) octets)) (le-ltb 191 len no_pointer)
    ∙ ap (λ b. by_owner false false b at len (drop (at + 1) octets)) (lt-ltb 63 len long)))

-- no owner ends after the last octet
pub no_owner_end : (octets : List ℕ) (at : ℕ) → length octets ≤ at → owner_end at 0 (drop at octets) ≡ None
no_owner_end octets at beyond = ap (owner_end at 0) (drop_all at octets beyond)

-- a label of 1 to 63 octets, and what stands after it
pub passes_owner_label : (octets : List ℕ) (at : ℕ) → at < length octets → get_or octets at 0 ≢ 0 → get_or octets at 0 ≤ 63 → owner_end at 0 (drop at octets) ≡ owner_end (at + (get_or octets at 0 + 1)) 0 (drop (at + (get_or octets at 0 + 1)) octets)
passes_owner_label octets at inside some short =
    let len = get_or octets at 0 in
    let no_pointer : len ≤ 191 = omega arith in
    let there : at + 1 + len ≡ at + (len + 1) = omega arith in
    by_length_there octets at inside
    ∙ (ap (λ b. by_owner b (nat_lt 191 len) (nat_lt 63 len) at len (drop (at + 1) octets)) (ne_eqb len 0 some)
    ∙ (ap (λ b. by_owner false b (nat_lt 63 len) at len (drop (at + 1) octets)) (le-ltb 191 len no_pointer)
    ∙ (ap (λ b. by_owner false false b at len (drop (at + 1) octets)) (le-ltb 63 len short)
    ∙ (after_owner_label (at + 1) len (drop (at + 1) octets)
    ∙ (ap (owner_end (at + 1 + len) 0) (drop-drop len (at + 1) octets)
    ∙ ap (λ p. owner_end p 0 (drop p octets)) there)))))
