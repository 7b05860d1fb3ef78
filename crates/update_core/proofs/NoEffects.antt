-- Records of an update that have no effect: deletions of what isn't there, and adds of what is (RFC 2136, 3.4.2.2 to 3.4.2.4).
use Rattle.std.proofs.Common.{◌≡◌, ◌≢◌, ℕ, ◌<◌, ◌≤◌, Bool, true, false, not, ◌&&◌, ◌==◌, bytes_eq, List, [], ◌∷◌, map, length, Some, refl, sym, ap, subst, ◌∙◌, arith}
use Rattle.std.specs.Bool.{OnTrue}
use Rattle.std.specs.List.{AllByRecursion}
use Rattle.std.proofs.lemmas.Bool.Decides.{nat_tests}
use Rattle.std.proofs.lemmas.List.Elements.{All-from_recursion}
use Rattle.dns_rdata.specs.Numbers.{type_ANY, type_SOA, class_IN, class_ANY, class_NONE}
use Rattle.dns_rdata.specs.Data.{Data}
use Rattle.dns_rdata.specs.Record.{Record, records_with, owner_of, rtype_of, ttl_of, IsSet, with_record, has_data}
use Rattle.dns_rdata.specs.Raw.{RawRecord}
use Rattle.dns_rdata.proofs.InsertLemmas.{same-from_has, records_with-with_data}
use Rattle.zone_tree.specs.Zone.{IsZone, IsBefore, is_of, rrset_of}
use Rattle.zone_tree.specs.Change.{with_rrset}
use Rattle.zone_tree.specs.declared.change.Change.{Change}
use Rattle.zone_tree.proofs.Rising.{rises_from_pairs}
use Rattle.update_core.specs.Verdict.{has_rrset}
use Rattle.update_core.specs.Act.{has_lesser_soa, is_apex_set}
use Rattle.update_core.specs.Applied.{held, AreOf, is_beside_alias, joined, set_behind}
use Rattle.update_core.proofs.ListLemmas.{both_fail}
use Rattle.update_core.proofs.DeletionEdits.{set_edits, absent_stays, record_absent}
use Rattle.update_core.proofs.ZoneParts.{three_parts, set_parts, each_passes}
use Rattle.update_core.proofs.RowEffects.{effect_of_set, effect_of_record, effect_of_addition, first_of, next_is, fits, held_is, nothing_of, nothing_in}

-- a set that isn't there has no record
none_in : (rs : List Record) → not (length rs == 0) ≡ false → length rs ≡ 0
none_in rs e = grind (arith, nat_tests)

pub set_absent : (zone : List Record) (r : RawRecord) → IsZone zone → r.class ≡ class_ANY → (r.rtype == type_ANY) ≡ false → is_apex_set zone r.owner r.rtype ≡ false → has_rrset zone r.owner r.rtype ≡ false → (changes : List Change) → changes ≡ [] → AreOf zone r changes
set_absent zone r h class other apart lacks changes is =
    let none = nothing_in (rrset_of zone r.owner r.rtype) (none_in (rrset_of zone r.owner r.rtype) lacks) in
    nothing_of zone r h (effect_of_set zone r class other ∙ ap Some (set_edits zone r apart ∙ absent_stays zone r.owner r.rtype none)) changes is

-- a record that isn't in its set
each_lacks : (octets : List ℕ) (rs : List Record) → has_data rs octets ≡ false → AllByRecursion (λ s. bytes_eq octets s.rdata ≡ false) rs
each_lacks octets [] e = tt
each_lacks octets (r ∷ rs) e = let parts = both_fail (bytes_eq octets r.rdata) (has_data rs octets) e in (parts.0, each_lacks octets rs parts.1)

pub record_missing : (zone : List Record) (r : RawRecord) → IsZone zone → r.class ≡ class_NONE → has_data (rrset_of zone r.owner r.rtype) r.octets ≡ false → (changes : List Change) → changes ≡ [] → AreOf zone r changes
record_missing zone r h class lacks changes is =
    let own = rrset_of zone r.owner r.rtype in
    let each = All-from_recursion (λ (s : Record). bytes_eq r.octets s.rdata ≡ false) own (each_lacks r.octets own lacks) in
    nothing_of zone r h (effect_of_record zone r class ∙ ap Some (record_absent zone r each)) changes is

-- a record that is in its set, whose TTL is its own
module _ (owner : List (List ℕ)) (rtype ttl : ℕ) where
  with_ttl : (ds : List Data) → map (λ (s : Record). record s { ttl = ttl }) (records_with owner rtype ttl ds) ≡ records_with owner rtype ttl ds
  with_ttl [] = refl
  with_ttl (d ∷ ds) = ap (λ (rs : List Record). let own : Record = record { owner = owner; rtype = rtype; ttl = ttl; rdata = d.octets } in own ∷ rs) (with_ttl ds)

  one_more : (ds : List Data) (d : Data) → IsSet owner rtype ttl ds → d.rtype ≡ rtype_of (records_with owner rtype ttl ds) → has_data (records_with owner rtype ttl ds) d.octets ≡ true
      → let rs = records_with owner rtype ttl ds in with_record (record { owner = owner_of rs; rtype = d.rtype; ttl = ttl_of rs; rdata = d.octets }) rs ≡ rs
  one_more ds d set typed has = sym (records_with-with_data owner rtype ttl d ds set.some typed) ∙ ap (records_with owner rtype ttl) (same-from_has owner rtype ttl d ds set.ascending has)

pub joined_same : (own : List Record) (ds : List Data) (d : Data) (ttl : ℕ) → own ≡ records_with (owner_of own) (rtype_of own) (ttl_of own) ds → IsSet (owner_of own) (rtype_of own) (ttl_of own) ds → d.rtype ≡ rtype_of own → ttl_of own ≡ ttl → has_data own d.octets ≡ true → joined own ttl d.octets ≡ own
joined_same own ds d ttl is set typed lasts has =
    let owner = owner_of own in
    let rtype = rtype_of own in
    let kept : map (λ (s : Record). record s { ttl = ttl_of own }) own ≡ own = subst (λ (rs : List Record). map (λ (s : Record). record s { ttl = ttl_of own }) rs ≡ rs) (sym is) (with_ttl owner rtype (ttl_of own) ds) in
    let more : with_record (record { owner = owner_of own; rtype = d.rtype; ttl = ttl_of own; rdata = d.octets }) own ≡ own =
    subst (λ (rs : List Record). d.rtype ≡ rtype_of rs → has_data rs d.octets ≡ true → with_record (record { owner = owner_of rs; rtype = d.rtype; ttl = ttl_of rs; rdata = d.octets }) rs ≡ rs) (sym is) (one_more owner rtype (ttl_of own) ds d set) typed has
    in
    (λ i. let x : Record = record { owner = owner; rtype = sym typed i; ttl = sym lasts i; rdata = d.octets } in with_record x (map (λ (s : Record). record s { ttl = sym lasts i }) own))
    ∙ ap (λ (rs : List Record). let x : Record = record { owner = owner; rtype = d.rtype; ttl = ttl_of own; rdata = d.octets } in with_record x rs) kept ∙ more

-- what follows of what holds where a test passes
pub if_true : {P Q : Type 0} (b : Bool) → (P → Q) → OnTrue b P → OnTrue b Q
if_true true f h = f h
if_true false f h = tt

pub by_true : {P : Type 0} (b : Bool) → (b ≡ true → P) → OnTrue b P
by_true true f = f refl
by_true false f = tt

pub if_both : {P Q S : Type 0} (b : Bool) → (P → Q → S) → OnTrue b P → OnTrue b Q → OnTrue b S
if_both true f h k = f h k
if_both false f h k = tt

-- a set put where it stands
set_stays : (zone : List Record) (r : RawRecord) → IsZone zone → rrset_of zone r.owner r.rtype ≢ [] → with_rrset zone (rrset_of zone r.owner r.rtype) ≡ zone
set_stays zone r h some =
    let own = rrset_of zone r.owner r.rtype in
    let first = first_of r.owner r.rtype own (longer own some) (each_passes r.owner r.rtype (is_of r.owner r.rtype) zone) in
    set_parts r.owner r.rtype zone own first.0 first.1 ∙ sym (three_parts r.owner r.rtype zone (rises_from_pairs IsBefore zone h.rules.ascending))
  where
    longer : (xs : List Record) → xs ≢ [] → 0 < length xs
    longer [] e = absurd (e refl)
    longer (x ∷ xs) e = omega arith

pub stands_of : (zone : List Record) (r : RawRecord) → IsZone zone → (r.class == class_IN) ≡ true → is_beside_alias zone r ≡ false → r.rtype == type_SOA && not (has_lesser_soa zone r) ≡ false → length r.octets ≤ 4096
    → rrset_of zone r.owner r.rtype ≢ [] → set_behind zone r ≡ rrset_of zone r.owner r.rtype → length (set_behind zone r) ≤ 256 → (changes : List Change) → changes ≡ [] → AreOf zone r changes
stands_of zone r h class apart greater short some same few changes is =
    nothing_of zone r h
    (effect_of_addition zone r class apart greater ∙ fits zone r h.rules short few ∙ ap held (next_is zone r h.rules ∙ ap (with_rrset zone) same ∙ set_stays zone r h some) ∙ held_is zone r zone h.limits.few)
    changes is
