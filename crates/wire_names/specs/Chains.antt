-- Chains of the entries of a table that have one parent, the newest first.
use Rattle.std.specs.Prelude.{◌≡◌, ℕ, ◌<◌, ◌≤◌, ◌⊎◌, List, [], length, slice_index_or}
use Rattle.wire_names.specs.Entry.{Entry}

-- the parent of the entry at an index
abbrev pub parent_at : List Entry → ℕ → ℕ
parent_at entries i = (slice_index_or entries i (record { key = 0; position = 0; parent = 0; octets = [] })).parent

-- among so many of the first entries, the newest that has a parent is at an index; none has it where this is 256 (own)
pub record IsNewest (entries : List Entry) (parent count index : ℕ) : Type 0 where
  pub within : (index < count) ⊎ (index ≡ 256)
  pub is : index < count → parent_at entries index ≡ parent
  pub others : (i : ℕ) → i < count → parent_at entries i ≡ parent → (index < count) × (i ≤ index)

-- each parent leads to the newest entry that has it, and each entry to the next older one that has the same; a parent is an entry, the
-- one that is entered next, the root (257), or no name of the table (from 258 on) (own)
pub record AreChained (entries : List Entry) (newest older : List ℕ) : Type 0 where
  pub few : length entries ≤ 256
  pub heads : (parent : ℕ) → (parent ≤ length entries) ⊎ (parent ≡ 257) → IsNewest entries parent (length entries) (slice_index_or newest parent 0)
  pub olders : (i : ℕ) → i < length entries → parent_at entries i < 258 → IsNewest entries (parent_at entries i) i (slice_index_or older i 0)
  pub low : (i : ℕ) → i < length entries → (parent_at entries i ≤ length entries) ⊎ (257 ≤ parent_at entries i)
