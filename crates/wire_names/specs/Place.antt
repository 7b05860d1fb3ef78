-- A suffix of a name that a table has, while the labels of the name are sought from the last on.
use Rattle.std.specs.Prelude.{◌≡◌, ℕ, ◌+◌, ◌<◌, ◌≤◌, List, length, drop, None}
use Rattle.dns_name.specs.Name.{Name}
use Rattle.wire_names.specs.Table.{Entry, parent_of, table_of, position_in}
use Rattle.wire_names.specs.declared.write.Place.{Place}

-- this is the number, as a parent, of a name that the table has, or of the root
pub record IsKnown (msg : List ℕ) (entries : List Entry) (name : Name) (index : ℕ) : Type 0 where
  pub is : index ≡ parent_of (table_of msg entries) name
  pub known : index < 258

-- after so many labels of a name stands the root, or a suffix that the table has: this is its number as a parent
pub record IsPlace (msg : List ℕ) (entries : List Entry) (name : Name) (place : Place) : Type 0 where
  pub within : place.labels ≤ length name
  pub index : place.index ≡ parent_of (table_of msg entries) (drop place.labels name)
  pub known : place.index < 258

-- the table doesn't have the suffix that is longer by one label
abbrev pub IsEnd : List ℕ → List Entry → Name → ℕ → Type 0
IsEnd msg entries name labels = (k : ℕ) → labels ≡ k + 1 → position_in (table_of msg entries) (drop k name) ≡ None

-- the table has no longer suffix
abbrev pub IsLongest : List ℕ → List Entry → Name → ℕ → Type 0
IsLongest msg entries name labels = (k : ℕ) → k < labels → position_in (table_of msg entries) (drop k name) ≡ None
