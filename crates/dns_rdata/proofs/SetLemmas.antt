-- What the records of a set share, and a set's data in order.
use Rattle.std.proofs.Common.{◌≡◌, ℕ, ◌<◌, ◌≤◌, ◌^◌, All, get_or, List, [], ◌∷◌, length, refl, arith}
use Rattle.std.proofs.lemmas.List.Elements.{All-nil, All-cons, All-map}
use Rattle.dns_name.specs.Name.{IsName, fold_name}
use Rattle.dns_rdata.specs.Data.{Data, IsData}
use Rattle.dns_rdata.specs.Record.{Record, IsLawful, records_with, owner_of, rtype_of, ttl_of, IsSet}

-- the first record has the set's owner, type and TTL
pub owner_of-records_with : (owner : List (List ℕ)) (rtype ttl : ℕ) (ds : List Data) → 0 < length ds → owner_of (records_with owner rtype ttl ds) ≡ owner
owner_of-records_with owner rtype ttl [] h = absurd (omega arith)
owner_of-records_with owner rtype ttl (d ∷ ds) h = refl

pub rtype_of-records_with : (owner : List (List ℕ)) (rtype ttl : ℕ) (ds : List Data) → 0 < length ds → rtype_of (records_with owner rtype ttl ds) ≡ rtype
rtype_of-records_with owner rtype ttl [] h = absurd (omega arith)
rtype_of-records_with owner rtype ttl (d ∷ ds) h = refl

pub ttl_of-records_with : (owner : List (List ℕ)) (rtype ttl : ℕ) (ds : List Data) → 0 < length ds → ttl_of (records_with owner rtype ttl ds) ≡ ttl
ttl_of-records_with owner rtype ttl [] h = absurd (omega arith)
ttl_of-records_with owner rtype ttl (d ∷ ds) h = refl

-- a set is made of its owner, type, TTL and data
pub records_with-of : (owner : List (List ℕ)) (rtype ttl : ℕ) (ds : List Data) → 0 < length ds → let rs = records_with owner rtype ttl ds in rs ≡ records_with (owner_of rs) (rtype_of rs) (ttl_of rs) ds
records_with-of owner rtype ttl [] h = absurd (omega arith)
records_with-of owner rtype ttl (d ∷ ds) h = refl

-- one record alone is a set
pub IsSet-one : (owner : List (List ℕ)) (rtype ttl : ℕ) (d : Data) → IsName owner → All (All (λ octet. octet < 256)) owner → owner ≡ fold_name owner → ttl < 2 ^ 31 → d.rtype ≡ rtype → IsData d → IsSet owner rtype ttl (d ∷ [])
IsSet-one owner rtype ttl d name octets folded lasts typed lawful = record {
  name = name;
  owner_octets = octets;
  folded = folded;
  lasts = lasts;
  some = omega arith;
  few = omega arith;
  typed = All-cons (λ (d : Data). d.rtype ≡ rtype) d [] typed (All-nil (λ (d : Data). d.rtype ≡ rtype));
  lawful = All-cons IsData d [] lawful (All-nil IsData);
  ascending = λ i j x before within. absurd (omega arith);
}

-- each of a set's records is one that a zone may have, and has at most 4,096 octets of data
pub lawful_records : (owner : List (List ℕ)) (rtype ttl : ℕ) (ds : List Data) → IsSet owner rtype ttl ds → All IsLawful (records_with owner rtype ttl ds)
lawful_records owner rtype ttl ds h =
    All-map IsLawful (λ (d : Data). record { owner = owner; rtype = rtype; ttl = ttl; rdata = d.octets }) ds
    (λ k d within.
    let own = get_or ds k d in
    let is = h.lawful k d within in
    let typed = h.typed k d within in
    record { name = h.name; owner_octets = h.owner_octets; folded = h.folded; lasts = h.lasts; form = rw (← typed) is.form; octets = is.bytes })

pub short_records : (owner : List (List ℕ)) (rtype ttl : ℕ) (ds : List Data) → IsSet owner rtype ttl ds → All (λ (r : Record). length r.rdata ≤ 4096) (records_with owner rtype ttl ds)
short_records owner rtype ttl ds h =
    All-map (λ (r : Record). length r.rdata ≤ 4096) (λ (d : Data). record { owner = owner; rtype = rtype; ttl = ttl; rdata = d.octets }) ds
    (λ k d within. (h.lawful k d within).short)
