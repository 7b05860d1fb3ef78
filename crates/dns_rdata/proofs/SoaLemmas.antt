-- The numbers behind the two names of an SOA's data are its last octets.
use Rattle.std.proofs.Common.{◌≡◌, ℕ, zero, suc, ◌+◌, ◌*◌, ◌-◌, ◌≤◌, ◌==◌, nat_le, List, [], length, take, drop, Option, Some, None, refl, sym, ap, ◌∙◌, arith}
use Rattle.std.specs.Int.{from_be_bytes, w32}
use Rattle.std.proofs.lemmas.Bool.Decides.{Decides-eqb}
use Rattle.std.proofs.lemmas.List.{length-append, drop-drop}
use Rattle.dns_name.specs.Name.{wire_of, name_in}
use Rattle.dns_name.proofs.LawLemmas.{name_in-is_present}
use Rattle.dns_rdata.specs.Layout.{layout_of}
use Rattle.dns_rdata.specs.Data.{names_then, data_of, behind_names, soa_number}
use Rattle.dns_rdata.proofs.NameLemmas.{map_some, and_then_some, cond_some}

behind_more : (names : ℕ) (octets : List ℕ) (name : List (List ℕ)) → name_in octets ≡ Some name → behind_names (suc names) octets ≡ behind_names names (drop (length (wire_of name)) octets)
behind_more names octets name e = ap (λ (o : Option (List (List ℕ))). elim o [ None ↦ [] | Some n ↦ behind_names names (drop (length (wire_of n)) octets) ]) e

-- one name more in front
last_step : (names back len wire rest : ℕ) (octets : List ℕ) (name : List (List ℕ)) → name_in octets ≡ Some name → len ≡ wire + rest → length octets ≡ len → length (wire_of name) ≡ wire → length (drop (length (wire_of name)) octets) ≡ rest
    → (back ≤ length (drop (length (wire_of name)) octets)) × (behind_names names (drop (length (wire_of name)) octets) ≡ drop (length (drop (length (wire_of name)) octets) - back) (drop (length (wire_of name)) octets))
    → (back ≤ length octets) × (behind_names (suc names) octets ≡ drop (length octets - back) octets)
last_step names back len wire rest octets name e sum size front left more =
    let long = more.0 in
    let twice = drop-drop (length (drop (length (wire_of name)) octets) - back) (length (wire_of name)) octets in
    let place : length (wire_of name) + (length (drop (length (wire_of name)) octets) - back) ≡ length octets - back = omega arith in
    (omega arith, behind_more names octets name e ∙ more.1 ∙ twice ∙ ap (λ (n : ℕ). drop n octets) place)

-- the octets behind the names are the last ones
last_behind : (names back : ℕ) (octets own : List ℕ) → names_then names back octets ≡ Some own → (back ≤ length octets) × (behind_names names octets ≡ drop (length octets - back) octets)
last_behind zero back octets own e =
    let test = cond_some (length octets == back) (Some octets) own e in
    let size = (Decides-eqb (length octets) back).0 test.0 in
    let none : length octets - back ≡ 0 = omega arith in
    (omega arith, rw none refl)
last_behind (suc names) back octets own e =
    let name = and_then_some _ (name_in octets) own e in
    let rest = map_some _ (names_then names back (drop (length (wire_of name.0)) octets)) own name.2 in
    let more = last_behind names back (drop (length (wire_of name.0)) octets) rest.0 rest.1 in
    last_step names back (length octets) (length (wire_of name.0)) (length (drop (length (wire_of name.0)) octets)) octets name.0 name.1 (ap length (name_in-is_present octets name.0 name.1).1 ∙ length-append (wire_of name.0) (drop (length (wire_of name.0)) octets)) refl refl refl more

-- what an SOA's data has
pub record IsSoa (octets : List ℕ) : Type 0 where
  pub long : 20 ≤ length octets
  pub numbers : behind_names 2 octets ≡ drop (length octets - 20) octets

pub soa_is : (octets : List ℕ) → data_of 6 octets ≡ Some octets → IsSoa octets
unfolding data_of layout_of
soa_is octets e =
    let test = cond_some (nat_le 0 (length octets)) _ octets e in
    let rest = map_some _ (names_then 2 20 (drop 0 octets)) octets test.1 in
    let last = last_behind 2 20 octets rest.0 rest.1 in
    record { long = last.0; numbers = last.1 }

-- the number that so many stand in front of is counted from the end
pub number_is : (octets : List ℕ) (i before : ℕ) → IsSoa octets → before + 4 * i ≡ 20 → from_be_bytes w32 (take 4 (drop (length octets - before) octets)) ≡ soa_number i octets
number_is octets i before soa e =
    let long = soa.long in
    let place : length octets - 20 + 4 * i ≡ length octets - before = omega arith in
    let twice = drop-drop (4 * i) (length octets - 20) octets in
    ap (λ (os : List ℕ). from_be_bytes w32 (take 4 os)) (ap (λ (n : ℕ). drop n octets) (sym place) ∙ sym twice ∙ ap (drop (4 * i)) (sym soa.numbers))
