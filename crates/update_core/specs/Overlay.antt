-- A zone, and in place of some owners' sets what the records of an update that were taken so far made of them (own).
use Rattle.std.specs.Prelude.{Option, None, Some, ◌≡◌, ℕ, ◌<◌, ◌≤◌, true, false, not, ◌==◌, if◌then◌else◌, List, [], ◌∷◌, ◌++◌, length, filter}
use Rattle.std.specs.Global.{Vec}
use Rattle.std.specs.List.{AllByRecursion}
use Rattle.std.specs.List.Sorted.{IsStrictlySortedBy}
use Rattle.std.specs.Map.{keys_of, lookup}
use Rattle.std.specs.BTreeMap.{is_at}
use Rattle.std.specs.Option.{IfSome}
use Rattle.std.specs.Ordering.{nat_cmp, is_eq}
use Rattle.dns_name.specs.Name.{Name, canonical_cmp, fold_name}
use Rattle.dns_rdata.specs.Limits.{max_set}
use Rattle.dns_rdata.specs.Numbers.{class_IN, class_NONE}
use Rattle.dns_rdata.specs.Data.{Data}
use Rattle.dns_rdata.specs.Raw.{RawRecord}
use Rattle.dns_rdata.specs.Record.{Record, owner_of, rtype_of, without_data}
use Rattle.zone_tree.specs.Zone.{IsZone, apex_of, rrset_of, rrsets_of}
use Rattle.zone_tree.specs.Sets.{records_in, IsRRset}
use Rattle.zone_tree.specs.Filed.{Owned}
use Rattle.zone_tree.specs.Edit.{put_at, with_owner, with_owners, AreOwn}
use Rattle.zone_tree.specs.declared.change.Change.{Change}
use Rattle.zone_tree.specs.declared.change.Change.TheVariants.{Put, Remove}
use Rattle.update_core.specs.Act.{entered, effect}
use Rattle.update_core.specs.Applied.{AreOf, set_behind}
use Rattle.update_core.specs.Tagged.{tagged_cmp}
use Rattle.update_core.specs.declared.rows.Row.{Row}
use Rattle.update_core.specs.declared.rows.Row.TheVariants.{Nothing, OneSet, Changes}

-- what stands at a name: what stood there, or an owner's sets in its place
abbrev pub at_owner : List Record → Option (Vec (List Record)) → List Record
at_owner old None = old
at_owner old (Some own) = records_in own.items

abbrev pub own_at : Name → List Owned → Option (Vec (List Record))
own_at name owned = lookup (is_at (canonical_cmp name)) owned

-- the sets of an owner, among those of the owner that was changed last and of others
abbrev pub own_of : Name → Option Owned → List Owned → Option (Vec (List Record))
own_of name None others = own_at name others
own_of name (Some last) others = if is_eq (canonical_cmp name last.0) then Some last.1 else own_at name others

-- a zone with these sets for those of the others, and then for those of the last
abbrev pub made_of : List Record → Option Owned → List Owned → List Record
made_of zone None others = with_owners zone others
made_of zone (Some last) others = with_owner last.0 (records_in last.1.items) (with_owners zone others)

-- all owners that were taken, with their sets: the one that was changed last after the others
abbrev pub all_of : Option Owned → List Owned → List Owned
all_of None others = others
all_of (Some last) others = others ++ last ∷ []

abbrev pub AllOwn : List Owned → Type 0
AllOwn owned = AllByRecursion (λ own. AreOwn own.0 own.1.items) owned

abbrev pub IsLastOwn : Option Owned → Type 0
IsLastOwn last = IfSome last (λ own. AreOwn own.0 own.1.items)

-- what an overlay keeps: each owner's sets are its own, the others are in order, and with their sets the zone is a zone again, of
-- the same apex, whose records are counted
pub record IsOverlay (zone : List Record) (last : Option Owned) (others : List Owned) (count : ℕ) : Type 0 where
  pub base : IsZone zone
  pub own : IsLastOwn last
  pub each : AllOwn others
  pub ordered : IsStrictlySortedBy tagged_cmp (keys_of others)
  pub lawful : IsZone (made_of zone last others)
  pub apex : apex_of (made_of zone last others) ≡ apex_of zone
  pub counted : count ≡ length (made_of zone last others)

-- a change is one of an owner's sets
abbrev pub IsChangeAt : Name → Change → Type 0
IsChangeAt owner (Put set) = (owner_of set ≡ fold_name owner) × IsRRset set
IsChangeAt owner (Remove name rtype) = name ≡ owner

-- an owner's sets after a change of one of them, and after several, one after the other (RFC 2181, 5)
abbrev pub changed_sets : List (List Record) → Change → List (List Record)
changed_sets own (Put set) = put_at (λ s. nat_cmp (rtype_of s) (rtype_of set)) (set ∷ []) own
changed_sets own (Remove name rtype) = filter (λ s. not (rtype_of s == rtype.0)) own

abbrev pub edited_sets : List (List Record) → List Change → List (List Record)
edited_sets own [] = own
edited_sets own (change ∷ changes) = edited_sets (changed_sets own change) changes

-- the records of a set, or none
abbrev pub set_or_none : Option (List Record) → List Record
set_or_none None = []
set_or_none (Some set) = set

-- the records of an owner and a type after a record of an update that has an effect on them: it joins or replaces them, or goes from
-- them, or all of them go (RFC 2136, 3.4.2.2 to 3.4.2.4)
abbrev pub set_left : List Record → RawRecord → List Record
set_left zone r = if r.class == class_IN then set_behind zone r else if r.class == class_NONE then without_data (rrset_of zone r.owner r.rtype) r.octets else []

-- the change that puts these records of a record's owner and type, or takes all of them away
abbrev pub change_for : RawRecord → List Record → Change
change_for r [] = Remove r.owner (record { 0 = r.rtype })
change_for r (s ∷ set) = Put (s ∷ set)

-- the data of a record that is added as they enter the zone; none of another
abbrev pub IsDataOf : RawRecord → Option Data → Type 0
IsDataOf r None = (r.class == class_IN) ≡ false
IsDataOf r (Some d) = ((r.class == class_IN) ≡ true) × (d.rtype ≡ r.rtype) × (d.octets ≡ (entered r).rdata)

-- the sets of a record's owner in a zone, and those after it where it makes others of the set of its type
abbrev pub IsChanged : List Record → RawRecord → List (List Record) → List (List Record) → Type 0
IsChanged zone r own next =
    (next ≡ changed_sets own (change_for r (set_left zone r))) × (0 < length (set_left zone r) → IsRRset (set_left zone r) × (length (set_left zone r) ≤ max_set))

-- a record is one that changes the set of its type alone
pub record IsOfOneSet (zone : List Record) (r : RawRecord) (datum : Option Data) : Type 0 where
  pub given : IsDataOf r datum
  pub of : (0 < length (set_left zone r) → IsRRset (set_left zone r) × (length (set_left zone r) ≤ max_set)) → AreOf zone r (change_for r (set_left zone r) ∷ [])
  pub limit : (r.class == class_IN) ≡ true → max_set < length (set_left zone r) → effect zone r ≡ None

-- what a record of an update does is so
abbrev pub IsRow : List Record → RawRecord → Row → Type 0
IsRow zone r Nothing = effect zone r ≡ Some zone
IsRow zone r (OneSet datum) = IsOfOneSet zone r datum
IsRow zone r (Changes changes) = AreOf zone r changes.items × AllByRecursion (IsChangeAt r.owner) changes.items

-- a zone, and the records that it has with the owners that were taken so far
pub record Overlaid : Type 0 where
  pub base : List Record
  pub made : List Record

-- those records, and an owner
pub record Placed : Type 0 where
  pub made : List Record
  pub owner : Name

-- sets are all that stands at an owner of a zone
pub record AreThere (zone : List Record) (owner : Name) (sets : List (List Record)) : Type 0 where
  pub lawful : IsZone zone
  pub own : AreOwn owner sets
  pub records : records_in sets ≡ rrsets_of zone owner
