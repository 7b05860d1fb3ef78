-- A zone in pieces: its sets, each the records of one owner and type (RFC 2181, 5).
use Rattle.std.specs.Prelude.{◌≡◌, ℕ, ◌<◌, ◌≤◌, true, false, ◌&&◌, ◌==◌, if◌then◌else◌, List, [], ◌∷◌, ◌≢◌, length, All}
use Rattle.std.specs.List.{AllPairs, flat_map, slice_index_or}
use Rattle.std.specs.Ordering.{nat_cmp, ordering_then, is_lt}
use Rattle.std.specs.declared.cmp.Ordering.{Ordering}
use Rattle.dns_rdata.specs.Limits.{max_data, max_set}
use Rattle.dns_name.specs.Name.{Name, is_same, is_under, canonical_cmp}
use Rattle.dns_rdata.specs.Numbers.{type_NS}
use Rattle.dns_rdata.specs.Record.{Record, IsLawful, owner_of, rtype_of, ttl_of}
use Rattle.zone_tree.specs.Zone.{IsZone, IsBefore, apex_of, rrset_of, is_of, is_alone, is_wild}

-- the records of sets, one set after another
abbrev pub records_in : List (List Record) → List Record
records_in sets = flat_map (λ set. set) sets

-- the order of sets: by owner, then type number (RFC 4034, 6.1)
abbrev pub set_cmp : List Record → List Record → Ordering
set_cmp set other = ordering_then (canonical_cmp (owner_of set) (owner_of other)) (nat_cmp (rtype_of set) (rtype_of other))

-- two sets in strictly ascending order
abbrev pub IsSetBefore : List Record → List Record → Type 0
IsSetBefore set other = is_lt (set_cmp set other) ≡ true

-- a record has a set's owner, type and TTL
pub record IsOf (set : List Record) (r : Record) : Type 0 where
  pub owner : r.owner ≡ owner_of set
  pub rtype : r.rtype ≡ rtype_of set
  pub ttl : r.ttl ≡ ttl_of set

-- a set: 1 to 256 records that a zone may have, of one owner, one type and one TTL, in strictly ascending order, each with
-- at most 4,096 octets of data (RFC 2181, 5 and 5.2; RFC 4034, 6.3; own)
pub record IsRRset (set : List Record) : Type 0 where
  pub some : 0 < length set
  pub few : length set ≤ max_set
  pub shared : All (IsOf set) set
  pub lawful : All IsLawful set
  pub short : All (λ r. length r.rdata ≤ max_data) set
  pub ascending : AllPairs IsBefore set

-- sets in strictly ascending order
pub record AreAscending (sets : List (List Record)) : Type 0 where
  pub each : All IsRRset sets
  pub ascending : AllPairs IsSetBefore sets

-- no two of the sets have one owner and type
abbrev pub AreUnsplit : List (List Record) → Type 0
AreUnsplit sets = AllPairs (λ set other. is_same (owner_of set) (owner_of other) && rtype_of set == rtype_of other ≡ false) sets

-- sets that are whole: none is empty, each is all that the zone has of its owner and type, and they are in strictly
-- ascending order (RFC 2181, 5)
pub record AreWhole (zone : List Record) (sets : List (List Record)) : Type 0 where
  pub some : All (λ set. 0 < length set) sets
  pub whole : All (λ set. set ≡ rrset_of zone (owner_of set) (rtype_of set)) sets
  pub ascending : AllPairs IsSetBefore sets

-- a set stands at a place
pub record IsPlaceOf (sets : List (List Record)) (set : List Record) (at : ℕ) : Type 0 where
  pub within : at < length sets
  pub is : (d : List Record) → slice_index_or sets at d ≡ set

-- the rules that the apex and the owners of a zone keep, beside the order of its records
pub record KeepsApexRules (zone : List Record) : Type 0 where
  pub under_apex : All (λ r. is_under r.owner (apex_of zone) ≡ true) zone
  pub name_servers : rrset_of zone (apex_of zone) type_NS ≢ []
  pub aliases_alone : All (λ r. is_alone zone r ≡ true) zone
  pub no_wild_cuts : All (λ r. is_wild r.owner && r.rtype == type_NS ≡ false) zone

-- sets that are a zone, with its apex and how many records it has
pub record AreJudged (sets : List (List Record)) (at : Name) (count : ℕ) : Type 0 where
  pub rising : AreAscending sets
  pub apex : at ≡ apex_of (records_in sets)
  pub counted : count ≡ length (records_in sets)
  pub lawful : IsZone (records_in sets)

-- a record before sets: in the first one where it has its owner and type, and else in a set of its own
abbrev pub in_front : Record → List (List Record) → List (List Record)
in_front r [] = (r ∷ []) ∷ []
in_front r (set ∷ sets) = if is_of (owner_of set) (rtype_of set) r then (r ∷ set) ∷ sets else (r ∷ []) ∷ set ∷ sets

-- records in order as sets, each of one owner and type (RFC 2181, 5)
abbrev pub sets_in : List Record → List (List Record)
sets_in [] = []
sets_in (r ∷ rs) = in_front r (sets_in rs)
