-- The order in which prerequisites of class IN are sought, and what tells that those of a set are the whole set
-- (RFC 2136, 3.2.3).
use Rattle.std.specs.Prelude.{◌≡◌, ℕ, ◌+◌, ◌<◌, Bool, true, ◌&&◌, ◌==◌, List, length, filter, slice_index_or, nat_lt, if◌then◌else◌, bytes_eq}
use Rattle.std.specs.List.{AllPairs, list_any, list_all}
use Rattle.std.specs.Ordering.{nat_cmp, ordering_then, is_lt}
use Rattle.std.specs.declared.cmp.Ordering.{Ordering}
use Rattle.std.specs.Cmp.Lexicographic.{slice_cmp}
use Rattle.dns_name.specs.Name.{Name, is_same, wire_of, fold_name}
use Rattle.dns_rdata.specs.Numbers.{class_IN}
use Rattle.dns_rdata.specs.Record.{Record, has_data}
use Rattle.dns_rdata.specs.Raw.{RawRecord}

-- the records of class IN
abbrev pub of_class_IN : List RawRecord → List RawRecord
of_class_IN sent = filter (λ r. r.class == class_IN) sent

-- names by their octets on the wire in lower case, from the first one on
abbrev pub wire_cmp : Name → Name → Ordering
wire_cmp name other = slice_cmp nat_cmp (wire_of (fold_name name)) (wire_of (fold_name other))

-- by type number, then by data octets, then by owner, without regard to case; neither class nor TTL counts
abbrev pub sought_cmp : RawRecord → RawRecord → Ordering
sought_cmp r s = ordering_then (nat_cmp r.rtype s.rtype) (ordering_then (slice_cmp nat_cmp r.octets s.octets) (wire_cmp r.owner s.owner))

-- a record of this owner, type and data
abbrev pub record_of : Name → ℕ → List ℕ → RawRecord
record_of owner rtype octets = record { owner = owner; rtype = rtype; class = class_IN; ttl = 0; octets = octets }

-- whether a record has this owner, type and data, owners without regard to case (RFC 4343, 3)
abbrev pub is_sought : Name → ℕ → List ℕ → RawRecord → Bool
is_sought owner rtype octets r = r.rtype == rtype && bytes_eq r.octets octets && is_same r.owner owner

-- the place after a place of so many, the first after the last
abbrev pub place_behind : ℕ → ℕ → ℕ
place_behind count at = if nat_lt (at + 1) count then at + 1 else 0

-- a record leads to the next of its set: its data stands at a place of the set, whose data ascend, and a record with the
-- data after that place was sent
pub record LeadsOn (set : List Record) (sent : List RawRecord) (r : RawRecord) : Type 0 where
  pub ascending : AllPairs (λ s t. is_lt (slice_cmp nat_cmp s.rdata t.rdata) ≡ true) set
  pub at : ℕ
  pub below : at < length set
  pub here : (d : Record) → (slice_index_or set at d).rdata ≡ r.octets
  pub behind : (d : Record) → list_any (is_sought r.owner r.rtype (slice_index_or set (place_behind (length set) at) d).rdata) sent ≡ true

-- whether a record's data is of a set, and each of the set's data was sent under its owner and type
abbrev pub is_of_whole : List Record → List RawRecord → RawRecord → Bool
is_of_whole set sent r = has_data set r.octets && list_all (λ s. list_any (is_sought r.owner r.rtype s.rdata) sent) set
