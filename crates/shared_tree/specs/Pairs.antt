-- A map as the list of its pairs in the order of their keys, and what is asked of it and made of it (own). cmp is the
-- order of the keys.
use Rattle.std.specs.Prelude.{◌≡◌, ℕ, ◌*◌, ◌^◌, ◌<◌, ◌≤◌, List, [], ◌∷◌, ◌++◌, reverse, take, drop, Option, None, Some}
use Rattle.std.specs.Option.{option_map}
use Rattle.std.specs.List.{filter, find, AllByRecursion, HoldsAt}
use Rattle.std.specs.declared.cmp.Ordering.{Ordering}
use Rattle.std.specs.declared.cmp.Ordering.TheVariants.{Less, Equal, Greater}
use Rattle.std.specs.Ordering.{is_lt, is_gt, is_eq, is_ne}

-- a tree is seen as its pairs, and, beside them, as the most nodes from its root down (own)
pub record TreeView (K V : Type 0) : Type 0 where
  pub pairs : List (K × V)
  pub height : ℕ

-- a height is at most twice the binary digits of a size; a size below 2^d has at most d of them (own)
abbrev pub IsLow : ℕ → ℕ → Type 0
IsLow height size = (digits : ℕ) → size < 2 ^ digits → height ≤ 2 * digits

module _ {K V : Type 0} (cmp : K → K → Ordering) where
  -- the keys ascend: each is less than all after it (own)
  abbrev pub IsAscending : List (K × V) → Type 0
  IsAscending [] = Unit {0}
  IsAscending (pair ∷ rest) = AllByRecursion (λ other. cmp pair.0 other.0 ≡ Less) rest × IsAscending rest

  -- the pairs of lesser keys, and those of greater ones (own)
  abbrev pub pairs_below : K → List (K × V) → List (K × V)
  pairs_below key pairs = filter (λ pair. is_gt (cmp key pair.0)) pairs

  abbrev pub pairs_above : K → List (K × V) → List (K × V)
  pairs_above key pairs = filter (λ pair. is_lt (cmp key pair.0)) pairs

  -- the pair of a key (own)
  abbrev pub pair_at : K → List (K × V) → Option (K × V)
  pair_at key pairs = find (λ pair. is_eq (cmp key pair.0)) pairs

  -- the value of a key (own)
  abbrev pub value_at : K → List (K × V) → Option V
  value_at key pairs = option_map (λ pair. pair.1) (pair_at key pairs)

  -- the pair of the greatest key that is less (own)
  abbrev pub pair_before : K → List (K × V) → Option (K × V)
  pair_before key pairs = find (λ pair. is_gt (cmp key pair.0)) (reverse pairs)

  -- the pair of the least key that is greater (own)
  abbrev pub pair_after : K → List (K × V) → Option (K × V)
  pair_after key pairs = find (λ pair. is_lt (cmp key pair.0)) pairs

  -- the pairs with one in place, whatever pair its key had (own)
  abbrev pub pairs_with : K → V → List (K × V) → List (K × V)
  pairs_with key value pairs = pairs_below key pairs ++ (key, value) ∷ pairs_above key pairs

  -- the pairs without that of a key (own)
  abbrev pub pairs_without : K → List (K × V) → List (K × V)
  pairs_without key pairs = filter (λ pair. is_ne (cmp key pair.0)) pairs

  -- a key's pair stands at a place of pairs (own)
  abbrev pub IsAt : K → List (K × V) → ℕ → Type 0
  IsAt key pairs place = HoldsAt (λ pair. cmp key pair.0 ≡ Equal) pairs place

  -- a key has no pair, and as many pairs of lesser keys as a place says (own)
  abbrev pub IsBetween : K → List (K × V) → ℕ → Type 0
  IsBetween key pairs place =
      AllByRecursion (λ pair. cmp key pair.0 ≡ Greater) (take place pairs) × AllByRecursion (λ pair. cmp key pair.0 ≡ Less) (drop place pairs)

-- the pair of the least key (own)
abbrev pub first_pair : {K V : Type 0} → List (K × V) → Option (K × V)
first_pair [] = None
first_pair (pair ∷ rest) = Some pair

-- the pair of the greatest key (own)
abbrev pub last_pair : {K V : Type 0} → List (K × V) → Option (K × V)
last_pair pairs = first_pair (reverse pairs)
