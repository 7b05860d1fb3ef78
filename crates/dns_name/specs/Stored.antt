-- How a zone keeps a name: in lower case and from the rightmost label on, in octets that compare from the front as the
-- names do in canonical order (RFC 4034, 6.1; own).
use Rattle.std.specs.Prelude.{◌≡◌, false, ℕ, zero, suc, ◌-◌, ◌<◌, ◌==◌, List, [], ◌∷◌, ◌++◌, length, map, reverse, flat_map, All}
use Rattle.std.specs.List.{list_any}
use Rattle.dns_name.specs.Name.{Name, IsName, fold_name}
use Rattle.dns_name.specs.Text.{onto_first}

-- what stands for an octet of a label: an octet 0 closes a label, so 0 and 1 themselves are two octets each
abbrev pub stored_octet : ℕ → List ℕ
stored_octet zero = 1 ∷ 1 ∷ []
stored_octet (suc zero) = 1 ∷ 2 ∷ []
stored_octet (suc (suc c)) = suc (suc c) ∷ []

-- what stands for a label
abbrev pub stored_label : List ℕ → List ℕ
stored_label label = flat_map stored_octet label ++ 0 ∷ []

-- what stands for a name
abbrev pub stored_of : Name → List ℕ
stored_of name = flat_map stored_label (reverse (fold_name name))

-- what stands between the octets that close labels
abbrev pub pieces : List ℕ → List (List ℕ)
pieces [] = []
pieces (zero ∷ octets) = [] ∷ pieces octets
pieces (suc c ∷ octets) = onto_first (suc c) (pieces octets)

-- the octets that a piece stands for
abbrev pub octets_stored : List ℕ → List ℕ
octets_stored [] = []
octets_stored (suc zero ∷ c ∷ octets) = (c - 1) ∷ octets_stored octets
octets_stored (c ∷ octets) = c ∷ octets_stored octets

-- the labels that octets stand for, the rightmost first
abbrev pub labels_stored : List ℕ → List (List ℕ)
labels_stored octets = map octets_stored (pieces octets)

-- the name that octets stand for
abbrev pub name_stored : List ℕ → Name
name_stored octets = reverse (labels_stored octets)

-- the octets stand for a name in lower case
pub record IsStored (octets : List ℕ) : Type 0 where
  pub is : octets ≡ stored_of (name_stored octets)
  pub name : IsName (name_stored octets)
  pub folded : name_stored octets ≡ fold_name (name_stored octets)
  pub bytes : All (All (λ octet. octet < 256)) (name_stored octets)

-- the octets are what stands for their labels
abbrev pub IsClosed : List ℕ → Type 0
IsClosed octets = octets ≡ flat_map stored_label (labels_stored octets)

-- no octet stands before one that stands for another
abbrev pub IsPlain : List ℕ → Type 0
IsPlain octets = list_any (λ octet. octet == 1) octets ≡ false

-- they begin with what stands for a label, and the rest is what stands for labels again
pub record IsFirstPiece (octets piece rest : List ℕ) : Type 0 where
  pub labels : labels_stored octets ≡ octets_stored piece ∷ labels_stored rest
  pub octets_are : octets ≡ piece ++ 0 ∷ rest
  pub closed : IsClosed rest
  pub shorter : length rest < length octets

-- they end with what stands for a label, and what is before it is what stands for labels again
pub record IsLastPiece (octets front piece : List ℕ) : Type 0 where
  pub labels : labels_stored octets ≡ labels_stored front ++ octets_stored piece ∷ []
  pub octets_are : octets ≡ front ++ piece ++ 0 ∷ []
  pub closed : IsClosed front
  pub shorter : length front < length octets

-- they end with what stands for a label, each octet of which stands for itself, and this is before it
pub record IsPlainFront (octets front : List ℕ) : Type 0 where
  pub piece : List ℕ
  pub last : IsLastPiece octets front piece
  pub itself : octets_stored piece ≡ piece
