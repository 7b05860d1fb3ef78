-- What the reader of a text has gathered: the labels that are closed, and the current one.
use Rattle.std.specs.Prelude.{◌≡◌, ℕ, false, List, [], ◌∷◌, ◌++◌, length, take, nat_lt, ◌==◌, Some}
use Rattle.std.specs.List.{list_any}
use Rattle.dns_name.specs.Text.{marks, pieces_of}
use Rattle.dns_name.specs.declared.text.Mark.{Mark}
use Rattle.dns_name.specs.declared.text.Gathered.{Gathered}

-- the octets of labels, with no zero octet after them
abbrev pub front_of : List (List ℕ) → List ℕ
front_of [] = []
front_of (label ∷ labels) = length label ∷ label ++ front_of labels

-- the octets of closed labels, where they leave room for the zero octet
pub record HasFront (gathered : Gathered) (labels : List (List ℕ)) : Type 0 where
  pub crowded : gathered.crowded ≡ nat_lt 254 (length (front_of labels))
  pub octets : gathered.crowded ≡ false → gathered.octets.items ≡ front_of labels

-- the closed labels and the current one, of which 64 octets are kept
pub record IsGathered (gathered : Gathered) (labels : List (List ℕ)) (label : List ℕ) : Type 0 where
  pub in_hand : gathered.label.items ≡ take 64 label
  pub empty : gathered.empty ≡ list_any (λ label. length label == 0) labels
  pub long : gathered.long ≡ list_any (λ label. nat_lt 63 (length label)) labels
  pub front : gathered.long ≡ false → HasFront gathered labels

-- the whole text is gathered
pub record IsAllOf (text : List ℕ) (gathered : Gathered) : Type 0 where
  pub labels : List (List ℕ)
  pub label : List ℕ
  pub all : List Mark
  pub read : marks 0 text ≡ Some all
  pub pieces : pieces_of all ≡ labels ++ label ∷ []
  pub is : IsGathered gathered labels label
