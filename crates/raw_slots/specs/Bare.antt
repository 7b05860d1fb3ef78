-- What a `Bare` knows of its row and its lease.
use Rattle.core.specs.Prelude.{◌≡◌, ℕ, List, []}
use base.Fml.{Fml, ftrue, fex}
use denote.RattleType.{RattleType}
use denote.Memory.{mem}
use denote.RawPtr.{Ptr}
use Rattle.raw_slots.specs.declared.place.Spot.{Spot}
use Rattle.raw_slots.specs.Chains.{after, AreAlong}

-- the row, of n values from first on, is at its end, the lease is of all of it, and spots say where the values' places lie
abbrev pub IsBare : (R : RattleType) → Ptr → ℕ → List R.Denot → Ptr → Ptr → ℕ → List (Spot R.Denot) → Type 0
IsBare R at n xs first start len spots = (at ≡ after R first n) × (xs ≡ []) × (start ≡ first) × (len ≡ n) × AreAlong (mem R).size first n spots

abbrev pub bare_owns : (R : RattleType) → Ptr → ℕ → List R.Denot → Ptr → Ptr → ℕ → List (Spot R.Denot) → Fml
bare_owns R at n xs first start len spots = fex (IsBare R at n xs first start len spots) (λ _. ftrue)
