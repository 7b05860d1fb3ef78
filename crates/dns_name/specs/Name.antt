-- What a name is, which names are the same, which is under which, and their order. A name is the list of its
-- labels, the leftmost first, and a label the list of its octets; the root has no label (RFC 1034, 3.1).
use Rattle.std.specs.Prelude.{false, ℕ, zero, suc, ◌<◌, ◌≤◌, Bool, List, [], ◌∷◌, ◌++◌, length, take, map, reverse, All, nat_lt, nat_le, if◌then◌else◌, Option, Some, None, option_map, option_and_then, bytes_eq}
use Rattle.std.specs.List.{list_any}
use Rattle.std.specs.Char.{to_ascii_lowercase}
use Rattle.std.specs.Cmp.Lexicographic.{slice_cmp, pointwise}
use Rattle.std.specs.Ordering.{nat_cmp}
use Rattle.std.specs.declared.cmp.Ordering.{Ordering}

-- a name: its labels, the leftmost first
abbrev pub Name : Type 0
Name = List (List ℕ)

-- a name's octets on the wire: each label after its length, then a zero octet (RFC 1035, 3.1)
abbrev pub wire_of : Name → List ℕ
wire_of [] = 0 ∷ []
wire_of (label ∷ name) = length label ∷ label ++ wire_of name

-- a label has 1 to 63 octets (RFC 1035, 2.3.4)
pub record IsLabel (label : List ℕ) : Type 0 where
  pub some : 0 < length label
  pub short : length label < 64

-- a name is of such labels, and has at most 255 octets on the wire (RFC 1035, 2.3.4)
pub record IsName (name : Name) : Type 0 where
  pub labels : All IsLabel name
  pub short : length (wire_of name) ≤ 255

-- a name in lower case: names compare without regard to ASCII case (RFC 4343, 3)
abbrev pub fold_name : Name → Name
fold_name name = map (map to_ascii_lowercase) name

-- whether two names are the same but for case (RFC 4343, 3)
abbrev pub is_same : Name → Name → Bool
is_same name other = pointwise bytes_eq (fold_name name) (fold_name other)

-- a name, then its ancestors up to the root, the one with most labels first
abbrev pub self_and_ancestors : Name → List Name
self_and_ancestors [] = [] ∷ []
self_and_ancestors (label ∷ name) = (label ∷ name) ∷ self_and_ancestors name

-- the name without its leftmost label; the root has no parent
abbrev pub parent_of : Name → Option Name
parent_of [] = None
parent_of (label ∷ name) = Some name

-- whether a name is under another: it is that name, or an ancestor of it is (RFC 1034, 3.1)
abbrev pub is_under : Name → Name → Bool
is_under name other = list_any (λ ancestor. is_same ancestor other) (self_and_ancestors name)

-- whether a name, where there is one, is under another
abbrev pub is_one_under : Option Name → Name → Bool
is_one_under None other = false
is_one_under (Some name) other = is_under name other

-- the canonical order of names: by their labels from the rightmost on, each folded and compared octet by
-- octet, a name before those that have more labels to its left (RFC 4034, 6.1)
abbrev pub canonical_cmp : Name → Name → Ordering
canonical_cmp name other = slice_cmp (slice_cmp nat_cmp) (reverse (fold_name name)) (reverse (fold_name other))

-- what the octets after the first k begin with: labels up to a zero octet, and the octets after that; none where a
-- length octet is over 63 or the octets end before (RFC 1035, 3.1)
abbrev pub labels_read : ℕ → List ℕ → Option (Name × List ℕ)
labels_read k [] = None
labels_read zero (zero ∷ octets) = Some ([], octets)
labels_read zero (suc n ∷ octets) =
    if nat_lt (suc n) 64 then option_map (λ read. (take (suc n) octets ∷ read.0, read.1)) (labels_read (suc n) octets) else None
labels_read (suc k) (octet ∷ octets) = labels_read k octets

-- the name that the octets begin with, written in full; none where they begin with no name (RFC 1035, 3.1)
abbrev pub name_in : List ℕ → Option Name
name_in octets =
    option_and_then (λ read. if nat_le (length (wire_of read.0)) 255 then Some read.0 else None) (labels_read 0 octets)

-- the label `*`, by its octets (RFC 4592, 2.1.1)
abbrev pub asterisk : List ℕ
asterisk = 42 ∷ []
