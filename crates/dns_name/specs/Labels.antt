-- How a name lies in octets: a length octet from 1 to 63 before each label, and a zero octet after the last (RFC 1035, 3.1).
use Rattle.std.specs.Prelude.{◌≡◌, ℕ, ◌<◌, List, [], ◌∷◌, ◌++◌, length, Some, None}
use Rattle.dns_name.specs.Name.{Name, IsName, labels_read, name_in}

-- the labels that octets begin with; no label where they begin with none
abbrev pub labels_in : List ℕ → Name
labels_in octets = elim (labels_read 0 octets) [ Some read ↦ read.0 | None ↦ [] ]

-- the octets are whole: labels are read up to a zero octet, and nothing is left behind it
abbrev pub IsWhole : List ℕ → Type 0
IsWhole octets = labels_read 0 octets ≡ Some (labels_in octets, [])

-- whole octets begin with this label, and the rest is whole again
pub record IsFirstLabel (octets label rest : List ℕ) : Type 0 where
  pub labels : labels_in octets ≡ label ∷ labels_in rest
  pub whole : IsWhole rest
  pub some : 0 < length label
  pub short : length label < 64
  pub octets_are : octets ≡ length label ∷ label ++ rest

-- octets begin with these, in which a name is written in full, and the rest stands after them (RFC 1035, 3.1)
pub record IsFirstName (octets own rest : List ℕ) : Type 0 where
  pub name : name_in octets ≡ Some (labels_in own)
  pub whole : IsWhole own
  pub lawful : IsName (labels_in own)
  pub octets_are : octets ≡ own ++ rest

-- octets in which a name is written in full (RFC 1035, 3.1)
pub record IsWire (octets : List ℕ) (name : Name) : Type 0 where
  pub whole : IsWhole octets
  pub lawful : IsName name
  pub labels : labels_in octets ≡ name
