-- Changes of a zone, set by set (RFC 2181, 5; RFC 2136, 3.4.2), and what one zone has that another hasn't (RFC 1995, 4).
use Rattle.std.specs.Prelude.{ℕ, Bool, ◌&&◌, not, ◌==◌, List, [], ◌∷◌, ◌++◌, filter}
use Rattle.std.specs.List.{list_any}
use Rattle.std.specs.Ordering.{nat_cmp, ordering_then, is_lt, is_gt, is_eq}
use Rattle.std.specs.declared.cmp.Ordering.{Ordering}
use Rattle.dns_name.specs.Name.{Name, canonical_cmp}
use Rattle.dns_rdata.specs.Numbers.{type_SOA}
use Rattle.dns_rdata.specs.Record.{Record, record_cmp, owner_of, rtype_of}
use Rattle.zone_tree.specs.Zone.{is_of}
use Rattle.zone_tree.specs.declared.change.Change.{Change}
use Rattle.zone_tree.specs.declared.change.Change.TheVariants.{Put, Remove}

-- where a record stands beside a set: by owner, then type number (RFC 4034, 6.1)
abbrev pub beside : List Record → Record → Ordering
beside set r = ordering_then (canonical_cmp r.owner (owner_of set)) (nat_cmp r.rtype (rtype_of set))

-- a zone with a set in place of the records of its owner and type
abbrev pub with_rrset : List Record → List Record → List Record
with_rrset zone set = filter (λ r. is_lt (beside set r)) zone ++ set ++ filter (λ r. is_gt (beside set r)) zone

-- a zone without the records of one owner and type
abbrev pub without_rrset : List Record → Name → ℕ → List Record
without_rrset zone owner rtype = filter (λ s. not (is_of owner rtype s)) zone

-- what a change makes of a zone's records
abbrev pub changed : List Record → Change → List Record
changed zone (Put set) = with_rrset zone set
changed zone (Remove owner rtype) = without_rrset zone owner rtype.0

-- what changes make of a zone's records, each of those that the changes before it leave
abbrev pub edited : List Record → List Change → List Record
edited zone [] = zone
edited zone (change ∷ changes) = edited (changed zone change) changes

-- whether two records are equal
abbrev pub is_same_record : Record → Record → Bool
is_same_record r s = is_eq (record_cmp r s) && r.ttl == s.ttl

-- the records of a zone that another hasn't, SOA apart (RFC 1995, 4)
abbrev pub left_out : List Record → List Record → List Record
left_out zone other = filter (λ r. not (r.rtype == type_SOA) && not (list_any (is_same_record r) other)) zone
