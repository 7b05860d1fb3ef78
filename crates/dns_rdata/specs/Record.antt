-- Records (RFC 1034, 3.6), and the sets of those that share an owner and a type (RFC 2181, 5).
use Rattle.std.specs.Prelude.{ℕ, ◌<◌, ◌≤◌, ◌^◌, Bool, true, not, List, [], ◌∷◌, map, filter, length, if◌then◌else◌, Option, Some, unwrap_or, bytes_eq, ◌≡◌, All}
use Rattle.std.specs.List.{AllPairs, list_any}
use Rattle.std.specs.Ordering.{nat_cmp, ordering_then, is_lt, is_eq}
use Rattle.std.specs.declared.cmp.Ordering.{Ordering}
use Rattle.std.specs.Cmp.Lexicographic.{slice_cmp}
use Rattle.dns_rdata.specs.Limits.{max_set}
use Rattle.dns_name.specs.Name.{Name, IsName, canonical_cmp, fold_name}
use Rattle.dns_rdata.specs.Data.{Data, IsData, data_of}

-- a record of class IN: its owner, its type's number, its TTL in seconds, and its data octets, names in full
pub record Record : Type 0 where
  pub owner : Name
  pub rtype : ℕ
  pub ttl : ℕ
  pub rdata : List ℕ

-- a record that a zone may have: its owner a name in lower case, its TTL at most 2^31 - 1, and its data of its type's form
-- (RFC 1035, 2.3.4 and 3.3; RFC 2181, 8; RFC 4343, 3)
pub record IsLawful (r : Record) : Type 0 where
  pub name : IsName r.owner
  pub owner_octets : All (All (λ octet. octet < 256)) r.owner
  pub folded : r.owner ≡ fold_name r.owner
  pub lasts : r.ttl < 2 ^ 31
  pub form : data_of r.rtype r.rdata ≡ Some r.rdata
  pub octets : All (λ octet. octet < 256) r.rdata

-- canonical order of records: by owner, then type number, then data octets (RFC 4034, 6.1 and 6.3)
abbrev pub record_cmp : Record → Record → Ordering
record_cmp r s = ordering_then (canonical_cmp r.owner s.owner) (ordering_then (nat_cmp r.rtype s.rtype) (slice_cmp nat_cmp r.rdata s.rdata))

-- the records of one owner, type and TTL that have these data
abbrev pub records_with : Name → ℕ → ℕ → List Data → List Record
records_with owner rtype ttl ds = map (λ d. record { owner = owner; rtype = rtype; ttl = ttl; rdata = d.octets }) ds

-- the owner, the type's number and the TTL of a set, which its records share: those of its first record
abbrev pub owner_of : List Record → Name
owner_of [] = []
owner_of (r ∷ rs) = r.owner

abbrev pub rtype_of : List Record → ℕ
rtype_of [] = 0
rtype_of (r ∷ rs) = r.rtype

abbrev pub ttl_of : List Record → ℕ
ttl_of [] = 0
ttl_of (r ∷ rs) = r.ttl

-- a record as an answer shows it: under the owner searched, and with the TTL given where there is one
abbrev pub shown_as : Name → Option ℕ → Record → Record
shown_as owner ttl r = record r { owner = owner; ttl = unwrap_or ttl r.ttl }

-- whether data octets come before others: as unsigned octets from the left, the shorter first where one begins the
-- other (RFC 4034, 6.3)
abbrev pub IsBefore : Data → Data → Type 0
IsBefore c d = is_lt (slice_cmp nat_cmp c.octets d.octets) ≡ true

-- what a set of one owner, type and TTL keeps: an owner that is a name in lower case, a TTL below 2^31, data of the type
-- in strictly ascending order, at least one and at most 256 (RFC 2181, 5 and 8; RFC 4034, 6.3)
pub record IsSet (owner : Name) (rtype ttl : ℕ) (ds : List Data) : Type 0 where
  pub name : IsName owner
  pub owner_octets : All (All (λ octet. octet < 256)) owner
  pub folded : owner ≡ fold_name owner
  pub lasts : ttl < 2 ^ 31
  pub some : 0 < length ds
  pub few : length ds ≤ max_set
  pub typed : All (λ d. d.rtype ≡ rtype) ds
  pub lawful : All IsData ds
  pub ascending : AllPairs IsBefore ds

-- a set's data with one more, in its place; equal data are one
abbrev pub with_data : Data → List Data → List Data
with_data d [] = d ∷ []
with_data d (c ∷ cs) = if is_lt (slice_cmp nat_cmp d.octets c.octets) then d ∷ c ∷ cs else if is_eq (slice_cmp nat_cmp d.octets c.octets) then c ∷ cs else c ∷ with_data d cs

-- and a set's records with one more
abbrev pub with_record : Record → List Record → List Record
with_record r [] = r ∷ []
with_record r (s ∷ ss) = if is_lt (slice_cmp nat_cmp r.rdata s.rdata) then r ∷ s ∷ ss else if is_eq (slice_cmp nat_cmp r.rdata s.rdata) then s ∷ ss else s ∷ with_record r ss

-- a set's records without the one that has these data octets
abbrev pub without_data : List Record → List ℕ → List Record
without_data rs octets = filter (λ r. not (bytes_eq octets r.rdata)) rs

-- whether one of a set's records has these data octets
abbrev pub has_data : List Record → List ℕ → Bool
has_data rs octets = list_any (λ r. bytes_eq octets r.rdata) rs
