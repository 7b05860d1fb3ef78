-- How a name is written into a message, with pointers to names before it (RFC 1035, 4.1.4).
use Rattle.std.specs.Prelude.{◌⊎◌, drop, ◌≡◌, ℕ, ◌+◌, ◌/◌, ◌%◌, ◌<◌, ◌≤◌, Bool, List, [], ◌∷◌, ◌++◌, length, take, drop, if◌then◌else◌, Option, Some, None}
use Rattle.dns_name.specs.Name.{Name, wire_of}
use Rattle.wire_names.specs.Table.{Entry, Table, position_in, entered, keyed, parent_of}
use Rattle.wire_names.specs.Chains.{parent_at}

-- the two octets of a pointer to a position below 16384 (RFC 1035, 4.1.4)
abbrev pub pointer_to : ℕ → List ℕ
pointer_to at = (192 + at / 256) ∷ (at % 256) ∷ []

-- a name's octets: labels up to the longest suffix that the table has, and a pointer to that suffix's earliest
-- position; where it has none, all labels and the zero octet (RFC 1035, 4.1.4)
abbrev pub name_octets : Table → Name → List ℕ
name_octets table [] = 0 ∷ []
name_octets table (label ∷ name) =
    elim (position_in table (label ∷ name)) [
      | Some target ↦ pointer_to target
      | None ↦ length label ∷ label ++ name_octets table name
    ]

-- the positions of the labels written out of a name at a position, each with the suffix that begins there
abbrev pub new_entries : Table → ℕ → Name → Table
new_entries table at [] = []
new_entries table at (label ∷ name) =
    elim (position_in table (label ∷ name)) [
      | Some target ↦ []
      | None ↦ (at, label ∷ name) ∷ new_entries table (at + 1 + length label) name
    ]

-- the positions of a name's labels that stand one after another, each after its length, from a position on, each with the suffix that
-- begins there
abbrev pub starts_of : ℕ → Name → Table
starts_of at [] = []
starts_of at (label ∷ name) = (at, label ∷ name) ∷ starts_of (at + 1 + length label) name

-- the first labels of a name, so many, can be entered at a position after a table: none of the names that begin there is in it, and this is
-- the parent of the last of them (own)
pub record CanEnter (entries : List Entry) (table : Table) (at : ℕ) (name : Name) (count last : ℕ) : Type 0 where
  pub entries_are : entries ≡ keyed table
  pub new : (i : ℕ) → i < count → position_in table (drop i name) ≡ None
  pub parent : 0 < count → last ≡ parent_of table (drop count name)
  pub closed : (i : ℕ) → i < length entries → 258 ≤ parent_at entries i → (length entries ≡ 256) ⊎ (16383 < at)

-- a name's octets, compressed or in full: a name in the data of an SRV record is never compressed (RFC 2782)
abbrev pub written : Bool → Table → Name → List ℕ
written compress table name = if compress then name_octets table name else wire_of name

-- what a name at a position enters into the table: a name in full enters nothing (own)
abbrev pub entries_of : Bool → Table → ℕ → Name → Table
entries_of compress table at name = if compress then new_entries table at name else []

-- the table after a name at a position
abbrev pub table_after : Bool → Table → ℕ → Name → Table
table_after compress table at name = entered (λ entry. entry.0) table (entries_of compress table at name)

-- octets stand in a buffer from a position up to the next; what was before them and after them is still there
pub record IsOverwritten (old new : List ℕ) (at : ℕ) (octets : List ℕ) (next : ℕ) : Type 0 where
  pub next_is : next ≡ at + length octets
  pub within : next ≤ length old
  pub new_is : new ≡ take at old ++ octets ++ drop next old

-- octets are written into a buffer at a position, which gives the position after them; none where they don't fit, and
-- then the buffer is as it was
abbrev pub WritesOctets : List ℕ → List ℕ → ℕ → List ℕ → Option ℕ → Type 0
WritesOctets old new at octets None = (length old < at + length octets) × (new ≡ old)
WritesOctets old new at octets (Some next) = IsOverwritten old new at octets next
