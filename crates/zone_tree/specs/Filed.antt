-- A zone's sets under their owners, as a zone keeps them (own).
use Rattle.std.specs.Prelude.{◌≡◌, ℕ, ◌<◌, List, [], Option, Some, None, length}
use Rattle.std.specs.Global.{Vec}
use Rattle.smallvec.specs.SmallVec.{SmallVec}
use Rattle.std.specs.List.{flat_map, AllByRecursion}
use Rattle.std.specs.declared.cmp.Ordering.TheVariants.{Less}
use Rattle.dns_name.specs.Name.{Name, canonical_cmp, fold_name}
use Rattle.dns_rdata.specs.Record.{Record, owner_of}
use Rattle.shared_tree.specs.Pairs.{IsAscending}
use Rattle.zone_tree.specs.Zone.{IsZone, apex_of}
use Rattle.zone_tree.specs.Sets.{records_in, IsSetBefore, AreAscending}

-- an owner's sets as a zone keeps them, an owner with them, and one with sets that come to a zone
abbrev pub Own : Type 0
Own = SmallVec (List Record)

abbrev pub Filed : Type 0
Filed = Name × Own

abbrev pub Owned : Type 0
Owned = Name × Vec (List Record)

-- the sets of all owners, one owner's after another's, and their records
abbrev pub sets_under : List Filed → List (List Record)
sets_under pairs = flat_map (λ pair. pair.1.items) pairs

abbrev pub records_under : List Filed → List Record
records_under pairs = records_in (sets_under pairs)

-- an owner has sets, which are its own
pub record IsFiled (pair : Filed) : Type 0 where
  pub some : 0 < length pair.1.items
  pub own : AllByRecursion (λ set. owner_of set ≡ pair.0) pair.1.items

-- sets in strictly ascending order under owners in strictly ascending order
pub record AreFiled (pairs : List Filed) : Type 0 where
  pub rising : AreAscending (sets_under pairs)
  pub each : AllByRecursion IsFiled pairs
  pub ascends : IsAscending canonical_cmp pairs

-- sets so far, under their owners
pub record AreGathered (pairs : List Filed) (sets : List (List Record)) : Type 0 where
  pub all : sets_under pairs ≡ sets
  pub each : AllByRecursion IsFiled pairs
  pub ascends : IsAscending canonical_cmp pairs
  pub folded : AllByRecursion (λ pair. pair.0 ≡ fold_name pair.0) pairs

-- all owners come before a name
abbrev pub AreBefore : Name → List Filed → Type 0
AreBefore name pairs = AllByRecursion (λ pair. canonical_cmp pair.0 name ≡ Less) pairs

-- a set comes after all others
abbrev pub IsBehind : List Record → List (List Record) → Type 0
IsBehind set sets = AllByRecursion (λ other. IsSetBefore other set) sets

-- owners with their sets as a zone keeps them, with its apex and how many records it has
pub record AreKept (at : Name) (count : ℕ) (pairs : List Filed) : Type 0 where
  pub filed : AreFiled pairs
  pub apex : at ≡ apex_of (records_under pairs)
  pub counted : count ≡ length (records_under pairs)
  pub lawful : IsZone (records_under pairs)

-- the sets of an owner, where there is one
abbrev pub items_of : Option Own → List (List Record)
items_of None = []
items_of (Some own) = own.items
