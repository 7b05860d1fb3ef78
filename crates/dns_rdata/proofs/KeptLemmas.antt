-- A set without one of its records.
use Rattle.std.proofs.Common.{◌≡◌, ℕ, ◌<◌, Bool, true, false, not, cond, List, [], ◌∷◌, length, filter, bytes_eq, refl, sym, ap, ◌∙◌, arith}
use Rattle.std.proofs.lemmas.List.Elements.{All-filter}
use Rattle.std.proofs.lemmas.List.Kept.{AllPairs-filter}
use Rattle.std.proofs.lemmas.List.Sums.{length-filter, count_by-le-length}
use Rattle.dns_rdata.specs.Data.{Data, IsData}
use Rattle.dns_rdata.specs.Record.{Record, records_with, IsBefore, IsSet, without_data}

-- the data that are left are those of the records that are left
kept_in_front : (owner : List (List ℕ)) (rtype ttl : ℕ) (d : Data) (ds : List Data) (b : Bool)
    → (let own : Record = record { owner = owner; rtype = rtype; ttl = ttl; rdata = d.octets } in cond b (own ∷ records_with owner rtype ttl ds) (records_with owner rtype ttl ds)) ≡ records_with owner rtype ttl (cond b (d ∷ ds) ds)
kept_in_front owner rtype ttl d ds true = refl
kept_in_front owner rtype ttl d ds false = refl

pub without_data-records : (owner : List (List ℕ)) (rtype ttl : ℕ) (octets : List ℕ) (ds : List Data)
    → without_data (records_with owner rtype ttl ds) octets ≡ records_with owner rtype ttl (filter (λ (d : Data). not (bytes_eq octets d.octets)) ds)
without_data-records owner rtype ttl octets [] = refl
without_data-records owner rtype ttl octets (d ∷ ds) =
    let own : Record = record { owner = owner; rtype = rtype; ttl = ttl; rdata = d.octets } in
    ap (λ (rs : List Record). cond (not (bytes_eq octets d.octets)) (own ∷ rs) rs) (without_data-records owner rtype ttl octets ds)
    ∙ kept_in_front owner rtype ttl d (filter (λ (d : Data). not (bytes_eq octets d.octets)) ds) (not (bytes_eq octets d.octets))

-- what is left is a set, where it isn't nothing
pub IsSet-filter : (owner : List (List ℕ)) (rtype ttl : ℕ) (p : Data → Bool) (ds : List Data) → IsSet owner rtype ttl ds → 0 < length (filter p ds) → IsSet owner rtype ttl (filter p ds)
IsSet-filter owner rtype ttl p ds is some = record {
  name = is.name;
  owner_octets = is.owner_octets;
  folded = is.folded;
  lasts = is.lasts;
  some = some;
  few = omega (arith, is.few, length-filter p ds, count_by-le-length p ds);
  typed = All-filter p (λ (d : Data). d.rtype ≡ rtype) ds is.typed;
  lawful = All-filter p IsData ds is.lawful;
  ascending = AllPairs-filter IsBefore p ds is.ascending;
}

-- what is left of a set that is seen as its records, by the data that are left
pub left_is : (owner : List (List ℕ)) (rtype ttl : ℕ) (octets : List ℕ) (ds kept : List Data) (set : List Record) → records_with owner rtype ttl ds ≡ set → kept ≡ filter (λ (d : Data). not (bytes_eq octets d.octets)) ds
    → records_with owner rtype ttl kept ≡ without_data set octets
left_is owner rtype ttl octets ds kept set view is =
    ap (records_with owner rtype ttl) is ∙ sym (without_data-records owner rtype ttl octets ds) ∙ ap (λ (rs : List Record). without_data rs octets) view

-- nothing is left where no data are, and something where some are
pub none_left : (owner : List (List ℕ)) (rtype ttl : ℕ) (kept : List Data) (left : List Record) → records_with owner rtype ttl kept ≡ left → length kept ≡ 0 → left ≡ []
none_left owner rtype ttl [] left is none = sym is
none_left owner rtype ttl (d ∷ ds) left is none = absurd (omega arith)

pub some_left : (owner : List (List ℕ)) (rtype ttl : ℕ) (kept : List Data) (left : List Record) → records_with owner rtype ttl kept ≡ left → 0 < length kept → left ≡ [] → true ≡ false
some_left owner rtype ttl [] left is some none = absurd (omega arith)
some_left owner rtype ttl (d ∷ ds) left is some none = cc
