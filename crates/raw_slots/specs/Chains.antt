-- Places in the order in which they lie in one row.
use Rattle.std.specs.Prelude.{◌≡◌, ℕ, zero, suc, List, [], ◌∷◌, length, slice_get, Some}
use denote.RattleType.{RattleType}
use denote.Memory.{mem}
use denote.RawPtr.{Ptr, ◌+ₚ◌}
use Rattle.raw_slots.specs.declared.place.Place.{Place}
use Rattle.raw_slots.specs.declared.place.Spot.{Spot}

-- after n things of this size, from p on
abbrev pub beyond : ℕ → Ptr → ℕ → Ptr
beyond size p zero = p
beyond size p (suc n) = beyond size p n +ₚ size

-- the place of the number k of a row from p on
abbrev pub after : RattleType → Ptr → ℕ → Ptr
after R p n = beyond (mem R).size p n

module _ (R : RattleType) {V : Type 0} where
  -- whole places side by side from p on
  pub record IsChain (p : Ptr) (places : List (Place R.Denot V)) : Type 0 where
    pub each : (k : ℕ) (x : Place R.Denot V) → slice_get places k ≡ Some x → (x.at ≡ after R p k) × (x.stake ≡ [])

  -- the row from p on, with these values, is cut into places, and spots say where each lies
  pub record IsCut (p : Ptr) (values : List R.Denot) (places : List (Place R.Denot V)) (spots : List (Spot R.Denot)) : Type 0 where
    pub size : length spots ≡ length places
    pub each : (k : ℕ) (x : Place R.Denot V) → slice_get places k ≡ Some x → (x.at ≡ after R p k) × (x.stake ≡ []) × (slice_get values k ≡ Some x.value)
    pub where_each : (k : ℕ) (s : Spot R.Denot) → slice_get spots k ≡ Some s → s.at ≡ after R p k

-- spots say where n places of this size lie, side by side from p on
pub record AreAlong {T : Type 0} (bytes : ℕ) (p : Ptr) (n : ℕ) (spots : List (Spot T)) : Type 0 where
  pub size : length spots ≡ n
  pub each : (k : ℕ) (s : Spot T) → slice_get spots k ≡ Some s → s.at ≡ beyond bytes p k

-- the spots of n places of this size, side by side from p on, after the first k
abbrev pub spots_from : {T : Type 0} → ℕ → Ptr → ℕ → ℕ → List (Spot T)
spots_from bytes p k zero = []
spots_from bytes p k (suc n) = record { at = beyond bytes p k } ∷ spots_from bytes p (suc k) n

-- whole places, each where its spot is
pub record AreAt {T V : Type 0} (spots : List (Spot T)) (places : List (Place T V)) : Type 0 where
  pub size : length spots ≡ length places
  pub each : (k : ℕ) (x : Place T V) → slice_get places k ≡ Some x → (x.stake ≡ []) × ((s : Spot T) × (slice_get spots k ≡ Some s) × (x.at ≡ s.at))

-- places that have these values, in their order
abbrev pub HaveValues : {T V : Type 0} → List T → List (Place T V) → Type 0
HaveValues {T} {V} values places = (k : ℕ) (x : Place T V) → slice_get places k ≡ Some x → slice_get values k ≡ Some x.value
