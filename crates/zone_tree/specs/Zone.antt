-- What a zone is, and what stands in it (RFC 1034, 4.2; RFC 2181, 5; RFC 4592, 2.2). A zone is the list of its
-- records in strictly ascending order, so that equal sets of records are equal lists.
use Rattle.std.specs.Prelude.{◌≡◌, ◌≢◌, ℕ, ◌≤◌, Bool, true, false, ◌&&◌, ◌||◌, not, ◌==◌, List, [], ◌∷◌, length, filter, All, AllPairs, bytes_eq}
use Rattle.std.specs.List.{list_any}
use Rattle.std.specs.Ordering.{is_lt}
use Rattle.dns_rdata.specs.Limits.{max_data, max_set}
use Rattle.zone_tree.specs.Limits.{max_records}
use Rattle.dns_name.specs.Name.{Name, is_same, is_under, asterisk}
use Rattle.dns_rdata.specs.Numbers.{type_NS, type_CNAME, type_SOA}
use Rattle.dns_rdata.specs.Record.{Record, IsLawful, record_cmp, owner_of}

-- whether a record stands at a name
abbrev pub stands_at : Name → Record → Bool
stands_at name r = is_same r.owner name

-- whether a record stands at a name and has a type
abbrev pub is_of : Name → ℕ → Record → Bool
is_of name rtype r = is_same r.owner name && r.rtype == rtype

-- all records at a name, in order
abbrev pub rrsets_of : List Record → Name → List Record
rrsets_of zone name = filter (stands_at name) zone

-- the records of one type at a name (RFC 2181, 5)
abbrev pub rrset_of : List Record → Name → ℕ → List Record
rrset_of zone name rtype = filter (is_of name rtype) zone

-- whether a name exists: it or a name below it owns a record (RFC 4592, 2.2.2 and 2.2.3)
abbrev pub exists : List Record → Name → Bool
exists zone name = list_any (λ r. is_under r.owner name) zone

-- the zone's SOA
abbrev pub soa_of : List Record → List Record
soa_of zone = filter (λ r. r.rtype == type_SOA) zone

-- the apex: the name that the SOA stands at; the root where there is none (RFC 1034, 4.2)
abbrev pub apex_of : List Record → Name
apex_of zone = owner_of (soa_of zone)

-- whether the first label is `*`
abbrev pub is_wild : Name → Bool
is_wild [] = false
is_wild (label ∷ name) = bytes_eq label asterisk

-- two records in ascending order
abbrev pub IsBefore : Record → Record → Type 0
IsBefore r s = is_lt (record_cmp r s) ≡ true

-- whether two records of one owner and type have one TTL (RFC 2181, 5.2)
abbrev pub share_ttl : Record → Record → Bool
share_ttl r s = not (is_of s.owner s.rtype r) || r.ttl == s.ttl

-- whether an alias stands alone at its owner (RFC 1034, 3.6.2; RFC 2181, 10.1)
abbrev pub is_alone : List Record → Record → Bool
is_alone zone r = not (r.rtype == type_CNAME) || length (rrsets_of zone r.owner) == 1

-- the rules that a zone keeps: records that a zone may have, in strictly ascending order; one TTL in a set; one SOA, and
-- all owners at or below its owner, the apex; an NS at the apex; an alias alone at its owner; no NS at an owner whose first
-- label is `*` (RFC 1034, 3.6.2, 4.2 and 4.2.1; RFC 2181, 5.2 and 10.1; RFC 4592, 4.2; own)
pub record KeepsRules (zone : List Record) : Type 0 where
  pub lawful : All IsLawful zone
  pub ascending : AllPairs IsBefore zone
  pub one_ttl : All (λ r. All (λ s. share_ttl r s ≡ true) zone) zone
  pub one_soa : length (soa_of zone) ≡ 1
  pub under_apex : All (λ r. is_under r.owner (apex_of zone) ≡ true) zone
  pub name_servers : rrset_of zone (apex_of zone) type_NS ≢ []
  pub aliases_alone : All (λ r. is_alone zone r ≡ true) zone
  pub no_wild_cuts : All (λ r. is_wild r.owner && r.rtype == type_NS ≡ false) zone

-- the limits that a zone is within: 1,000,000 records, 256 records a set, 4,096 octets of data a record (own)
pub record KeepsLimits (zone : List Record) : Type 0 where
  pub few : length zone ≤ max_records
  pub small_sets : All (λ r. length (rrset_of zone r.owner r.rtype) ≤ max_set) zone
  pub short : All (λ r. length r.rdata ≤ max_data) zone

-- a zone: records that keep the rules, within the limits
pub record IsZone (zone : List Record) : Type 0 where
  pub rules : KeepsRules zone
  pub limits : KeepsLimits zone
