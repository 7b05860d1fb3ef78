-- How many names data has.
use Rattle.std.proofs.Common.{◌≡◌, ℕ, zero, suc, Bool, nat_le, List, [], ◌∷◌, length, drop, Option, Some, None, IsSome, refl, sym, ap, ◌∙◌}
use Rattle.std.specs.Option.{option_and_then}
use Rattle.dns_name.specs.Name.{Name, wire_of, name_in}
use Rattle.dns_rdata.specs.declared.layout.Layout.{Layout}
use Rattle.dns_rdata.specs.declared.layout.Layout.TheVariants.{Fields}
use Rattle.dns_rdata.specs.Layout.{layout_of, names_in, names_by, names_in_data}
use Rattle.dns_rdata.specs.Data.{names_then, parts, data_by, data_of, target_of}
use Rattle.dns_rdata.specs.Record.{Record, IsLawful}
use Rattle.dns_rdata.proofs.NameLemmas.{map_some, and_then_some, cond_some}

names_more : (names : ℕ) (octets : List ℕ) (name : Name) → name_in octets ≡ Some name → names_in (suc names) octets ≡ name ∷ names_in names (drop (length (wire_of name)) octets)
names_more names octets name e = ap (λ (o : Option Name). elim o as (λ _. List Name) [ None ↦ [] | Some n ↦ n ∷ names_in names (drop (length (wire_of n)) octets) ]) e

count_by : (names back : ℕ) (octets own : List ℕ) → names_then names back octets ≡ Some own → length (names_in names octets) ≡ names
count_by zero back octets own e = refl
count_by (suc names) back octets own e =
    let name = and_then_some _ (name_in octets) own e in
    let rest = map_some _ (names_then names back (drop (length (wire_of name.0)) octets)) own name.2 in
    ap length (names_more names octets name.0 name.1) ∙ ap (λ (n : ℕ). suc n) (count_by names back (drop (length (wire_of name.0)) octets) rest.0 rest.1)

pub names_count : (rtype front names back : ℕ) (compressed : Bool) (octets own : List ℕ) → layout_of rtype ≡ Some (Fields front names back compressed) → data_of rtype octets ≡ Some own → length (names_in_data rtype octets) ≡ names
unfolding data_of
names_count rtype front names back compressed octets own e is =
    let lies : data_of rtype octets ≡ parts front names back octets = ap (option_and_then (λ (layout : Layout). data_by layout octets)) e in
    let formed : parts front names back octets ≡ Some own = sym lies ∙ is in
    let test = cond_some (nat_le front (length octets)) _ own formed in
    let rest = map_some _ (names_then names back (drop front octets)) own test.1 in
    let found : names_in_data rtype octets ≡ names_in names (drop front octets) = ap (λ (o : Option Layout). elim o as (λ _. List Name) [ None ↦ [] | Some layout ↦ names_by layout octets ]) e in
    ap length found ∙ count_by names back (drop front octets) rest.0 rest.1

target_is : (octets : List ℕ) → data_of 5 octets ≡ Some octets → IsSome (target_of octets)
unfolding data_of layout_of
target_is octets e =
    let test = cond_some (nat_le 0 (length octets)) _ octets e in
    let rest = map_some _ (names_then 1 0 octets) octets test.1 in
    let name = and_then_some _ (name_in octets) rest.0 rest.1 in
    rw name.1 refl

pub alias_target : (r : Record) → IsLawful r → r.rtype ≡ 5 → IsSome (target_of r.rdata)
alias_target r h e = target_is r.rdata (rw e at h.form)
