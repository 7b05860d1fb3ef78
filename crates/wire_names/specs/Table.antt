-- The table of a message's names that pointers can name (RFC 1035, 4.1.4).
use Rattle.std.specs.Prelude.{◌≢◌, ◌⊎◌, drop, take, ◌≡◌, true, false, ℕ, ◌+◌, ◌-◌, ◌*◌, ◌/◌, ◌%◌, ◌^◌, ◌<◌, ◌≤◌, Bool, ◌&&◌, List, [], ◌∷◌, ◌++◌, length, map, min, All, AllPairs, slice_index_or, nat_lt, nat_le, if◌then◌else◌, Option, Ok, Err, bytes_eq}
use Rattle.std.specs.List.{filter, fold, reduce}
use Rattle.std.specs.Cmp.Lexicographic.{pointwise}
use Rattle.std.specs.Result.{IsOk}
use Rattle.dns_name.specs.Name.{Name, wire_of}
use Rattle.wire_names.specs.NameAt.{name_at}
use Rattle.wire_names.specs.Parts.{part_at}
use Rattle.wire_names.specs.declared.part.Part.TheVariants.{Label}
use Rattle.wire_names.specs.Entry.{long_octets}
pub use Rattle.wire_names.specs.Entry.{Entry}
use Rattle.wire_names.specs.Chains.{parent_at}

-- the table: positions of a message, each with the name that is spelt there, in the order in which they were entered
abbrev pub Table : Type 0
Table = List (ℕ × Name)

-- whether two names are spelt the same, case included
abbrev pub same_spelling : Name → Name → Bool
same_spelling name other = pointwise bytes_eq name other

-- the positions at which a name is spelt
abbrev pub positions_in : Table → Name → List ℕ
positions_in table name = map (λ entry. entry.0) (filter (λ entry. same_spelling entry.1 name) table)

-- the earliest position at which a name is spelt: the least of them
abbrev pub position_in : Table → Name → Option ℕ
position_in table name = reduce min (positions_in table name)

-- a list with one more position: up to 256 of them (own), none over 16383, since a pointer has 14 bits (RFC 1035, 4.1.4)
abbrev pub enter : {A : Type 0} → (A → ℕ) → List A → A → List A
enter position xs x = if nat_lt (length xs) 256 && nat_le (position x) 16383 then xs ++ x ∷ [] else xs

-- a list with more positions, one after another
abbrev pub entered : {A : Type 0} → (A → ℕ) → List A → List A → List A
entered position xs [] = xs
entered position xs (y ∷ ys) = entered position (enter position xs y) ys

-- the name at a position of a message; the root where there is none
abbrev pub spelt_at : List ℕ → ℕ → Name
spelt_at msg at = elim (name_at msg at) [ Ok read ↦ read.0 | Err fault ↦ [] ]

-- the octet so far from the end of a label with its length octet in front; the length octet where the label is too short
abbrev pub octet_before : ℕ → List ℕ → ℕ
octet_before back label = slice_index_or (length label ∷ label) (length label - back) 0

-- the last four octets of a label as a number, its length octet before it (own)
abbrev pub end_key : List ℕ → ℕ
end_key label = (octet_before 3 label * 256 + octet_before 2 label) * 65536 + (octet_before 1 label * 256 + octet_before 0 label)

-- the number of the octets of a label before its last four (own)
abbrev pub front_key : List ℕ → ℕ
front_key octets = fold (λ key octet. (key + octet) % 2 ^ 32 * 2654435761 % 2 ^ 32) 0 octets

-- the key of a label: a number of all its octets (own)
abbrev pub label_key : List ℕ → ℕ
label_key label = (front_key (take (length label - 4) label) + end_key label) % 2 ^ 32

-- the four octets up to one at an index, as a number; the first octet stands for those that would be before it (own)
abbrev pub key_up_to : List ℕ → ℕ → ℕ
key_up_to octets n =
    (slice_index_or octets (n - 3) 0 * 256 + slice_index_or octets (n - 2) 0) * 65536
    + (slice_index_or octets (n - 1) 0 * 256 + slice_index_or octets n 0)

-- the last four octets of a name's first label; 0 where it has none (own)
abbrev pub first_end : Name → ℕ
first_end [] = 0
first_end (label ∷ name) = end_key label

-- the key of a name's first label; 0 where it has none (own)
abbrev pub first_key : Name → ℕ
first_key [] = 0
first_key (label ∷ name) = label_key label

-- the index of the first entry that spells a name, where the first of these has this index; where none does, 258 and how many octets
-- the name takes (own)
abbrev pub index_from : ℕ → Table → Name → ℕ
index_from i [] name = 258 + length (wire_of name)
index_from i (entry ∷ table) name = if same_spelling entry.1 name then i else index_from (i + 1) table name

-- the parent of what stands before a name: the index of the first entry that spells the name; 257 for the root (own)
abbrev pub parent_of : Table → Name → ℕ
parent_of table [] = 257
parent_of table (label ∷ name) = index_from 0 table (label ∷ name)

-- the entry of a position with its name: the key of its first label, the parent after that label, and its octets where they are many (own)
abbrev pub entry_of : Table → ℕ × Name → Entry
entry_of table named = record {
  key = first_key named.1;
  position = named.0;
  parent = parent_of table (drop 1 named.1);
  octets = long_octets (wire_of named.1);
}

-- the entries of a table
abbrev pub keyed : Table → List Entry
keyed table = map (entry_of table) table

-- each key has its mark: one of 8192, by the highest 13 bits of its product with an odd number (own)
abbrev pub AreMarked : List Entry → List Bool → Type 0
AreMarked entries marks = All (λ entry. slice_index_or marks (entry.key * 2654435761 % 2 ^ 32 / 524288) false ≡ true) entries

-- the table that positions of a message stand for, whatever their keys
abbrev pub table_of : List ℕ → List Entry → Table
table_of msg entries = map (λ entry. (entry.position, spelt_at msg entry.position)) entries

-- a pointer can name the position, and a name is spelt there
pub record IsTarget (msg : List ℕ) (at : ℕ) : Type 0 where
  pub low : at < 16384
  pub read : IsOk (name_at msg at)

-- a name that begins with a label stands at a position of the message
pub record IsLabelAt (msg : List ℕ) (at : ℕ) : Type 0 where
  pub read : IsOk (name_at msg at)
  pub len : ℕ
  pub label : part_at msg at ≡ Ok (Label len)

-- a pointer can name a position of the message, and a name that begins with a label is spelt there
pub record IsEntry (msg : List ℕ) (entry : Entry) : Type 0 where
  pub target : IsTarget msg entry.position
  pub label : IsLabelAt msg entry.position

-- each entry is at a position that a pointer can name, where a name begins with a label
abbrev pub AreEntries : List ℕ → List Entry → Type 0
AreEntries msg entries = All (IsEntry msg) entries

-- an entry whose parent no entry spells is the last one, and no more is entered after it: the table is full, or the message has gone past
-- what a pointer can name (own)
abbrev pub IsClosed : List ℕ → List Entry → Type 0
IsClosed msg entries = (i : ℕ) → i < length entries → 258 ≤ parent_at entries i → (i + 1 ≡ length entries) × ((length entries ≡ 256) ⊎ (16383 < length msg))

-- positions of a message that make a table: each name is spelt at one of them alone, and each entry is the one of its position
pub record IsTable (msg : List ℕ) (entries : List Entry) : Type 0 where
  pub few : length entries ≤ 256
  pub targets : AreEntries msg entries
  pub apart : AllPairs (λ named other. named.1 ≢ other.1) (table_of msg entries)
  pub entries_are : entries ≡ keyed (table_of msg entries)
  pub closed : IsClosed msg entries

-- the position of the entry at an index
abbrev pub place_at : List Entry → ℕ → ℕ
place_at entries i = (slice_index_or entries i (record { key = 0; position = 0; parent = 0; octets = [] })).position

-- a name is spelt at the position at an index of a table
pub record IsSpelt (msg : List ℕ) (entries : List Entry) (name : Name) (index : ℕ) : Type 0 where
  pub within : index < length entries
  pub is : spelt_at msg (place_at entries index) ≡ name

-- an entry has a parent, and its name begins with the first label of a name
abbrev pub BeginsAlike : List ℕ → List Entry → ℕ → Name → ℕ → Type 0
BeginsAlike msg entries parent name index = (parent_at entries index ≡ parent) × (take 1 (spelt_at msg (place_at entries index)) ≡ take 1 name)

-- no entry that has a parent begins with the first label of a name
abbrev pub HasNoChild : List ℕ → List Entry → ℕ → Name → Type 0
HasNoChild msg entries parent name = (i : ℕ) → i < length entries → BeginsAlike msg entries parent name i → ⊥

-- the entry at an index has a parent, and begins with the first label of a name
pub record IsChild (msg : List ℕ) (entries : List Entry) (parent : ℕ) (name : Name) (index : ℕ) : Type 0 where
  pub within : index < length entries
  pub alike : BeginsAlike msg entries parent name index
