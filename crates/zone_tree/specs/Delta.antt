-- What one zone has that another hasn't, found at the owners where they differ (RFC 1995, 4; own).
use Rattle.std.specs.Prelude.{◌≡◌, ◌==◌, false, not, List, [], ◌∷◌, length, filter}
use Rattle.std.specs.List.{list_any, flat_map}
use Rattle.dns_name.specs.Name.{Name, is_same}
use Rattle.dns_rdata.specs.Numbers.{type_SOA}
use Rattle.dns_rdata.specs.Record.{Record, rtype_of}
use Rattle.zone_tree.specs.Zone.{rrsets_of}
use Rattle.zone_tree.specs.Sets.{sets_in, AreAscending, AreWhole}
use Rattle.zone_tree.specs.Change.{is_same_record, left_out}

-- records other than SOAs
abbrev pub other_than_soa : List Record → List Record
other_than_soa records = filter (λ r. not (r.rtype == type_SOA)) records

-- two zones differ only at owners: at each other name they have the same records, SOA apart
abbrev pub DifferOnlyAt : List Name → List Record → List Record → Type 0
DifferOnlyAt owners zone other = (name : Name) → list_any (is_same name) owners ≡ false → other_than_soa (rrsets_of zone name) ≡ other_than_soa (rrsets_of other name)

-- the records of a set that another set hasn't
abbrev pub lacking : List Record → List Record → List Record
lacking set other = filter (λ r. not (list_any (is_same_record r) other)) set

-- a set as a list of sets: none where it has no record
abbrev pub some_set : List Record → List (List Record)
some_set [] = []
some_set (r ∷ rs) = (r ∷ rs) ∷ []

-- what sets have that a zone hasn't, set by set
abbrev pub sets_left_out : List (List Record) → List Record → List (List Record)
sets_left_out sets other = flat_map (λ set. some_set (left_out set other)) sets

-- a zone's sets at owners, one owner's after another's
abbrev pub sets_of : List Record → List Name → List (List Record)
sets_of zone owners = flat_map (λ owner. sets_in (rrsets_of zone owner)) owners

-- each set at an owner is all that the zone has of its owner and type
abbrev pub AreWholeAt : List Record → Name → Type 0
AreWholeAt zone owner = AreWhole zone (sets_in (rrsets_of zone owner))

-- what a delta keeps: one SOA, and each list as sets in canonical order
pub record IsDelta (old_soa : List Record) (deletions additions : List (List Record)) : Type 0 where
  pub typed : rtype_of old_soa ≡ type_SOA
  pub one : length old_soa ≡ 1
  pub taken_out : AreAscending deletions
  pub put_in : AreAscending additions
