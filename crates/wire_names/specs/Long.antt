-- How the entries of a table are kept: their heads, and beside them the octets of long names.
use Rattle.std.specs.Prelude.{List, [], ◌∷◌, ℕ, take}
use Rattle.wire_names.specs.Entry.{Entry}
use Rattle.wire_names.specs.declared.long.Long.{Long}
use Rattle.wire_names.specs.declared.table.Head.{Head}

-- the octets that are kept of a name
abbrev pub kept_of : Long → List ℕ
kept_of long = take long.size long.octets

-- the entry with this head and these octets
abbrev pub entry_with : Head → List ℕ → Entry
entry_with head octets = record { key = head.key; position = head.position; parent = head.parent; octets = octets }

-- the head of an entry
abbrev pub head_of : Entry → Head
head_of entry = record { key = entry.key; position = entry.position; parent = entry.parent }

-- each head with the octets that stand beside it
abbrev pub entries_with : List Head → List Long → List Entry
entries_with [] longs = []
entries_with (head ∷ heads) [] = entry_with head [] ∷ entries_with heads []
entries_with (head ∷ heads) (long ∷ longs) = entry_with head (kept_of long) ∷ entries_with heads longs
