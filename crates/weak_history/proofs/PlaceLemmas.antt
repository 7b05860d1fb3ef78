-- What is in full places.
use Rattle.std.proofs.Common.{◌≡◌, refl, ℕ, suc, zero, ◌+◌, ◌≤◌, ◌<◌, List, [], ◌∷◌, ◌++◌, length, drop, Option, None, Some, arith, sym, ap, ◌∙◌}
use Rattle.std.specs.List.{slice_get}
use Rattle.std.specs.Prelude.{slice_set, remove}
use Rattle.std.proofs.Math.ListN.{get_or}
use Rattle.weak_history.specs.Places.{placed, IsFull}

pub placed-append : {T : Type 0} (places more : List (Option T)) → placed (places ++ more) ≡ placed places ++ placed more
placed-append [] more = refl
placed-append (None ∷ places) more = placed-append places more
placed-append (Some it ∷ places) more = ap (λ l. it ∷ l) (placed-append places more)

pub length-placed : {T : Type 0} (places : List (Option T)) → IsFull places → length (placed places) ≡ length places
length-placed [] full = refl
length-placed (None ∷ places) full = absurd full
length-placed (Some it ∷ places) full = ap suc (length-placed places full)

pub full_push : {T : Type 0} (places : List (Option T)) (it : T) → IsFull places → IsFull (places ++ Some it ∷ [])
full_push [] it full = tt
full_push (None ∷ places) it full = full
full_push (Some other ∷ places) it full = full_push places it full

-- what is in a place
abbrev pub shown : {T : Type 0} → Option (Option T) → Option T
shown None = None
shown (Some it) = it

pub placed_get : {T : Type 0} (places : List (Option T)) (at : ℕ) → IsFull places → slice_get (placed places) at ≡ shown (slice_get places at)
placed_get [] at full = refl
placed_get (None ∷ places) at full = absurd full
placed_get (Some it ∷ places) zero full = refl
placed_get (Some it ∷ places) (suc at) full = placed_get places at full

-- no place is empty
pub place_full : {T : Type 0} (places : List (Option T)) (at : ℕ) (place : Option T) → IsFull places → at < length places → place ≡ get_or places at place → place ≡ None → ⊥
place_full [] at place full within is none = absurd (omega arith)
place_full (None ∷ places) at place full within is none = full
place_full (Some it ∷ places) zero place full within is none = some_none it (sym is ∙ none)
  where
    some_none : {T : Type 0} (it : T) → Some it ≡ None → ⊥
    some_none it same = cc
place_full (Some it ∷ places) (suc at) place full within is none = place_full places at place full (omega arith) is none

-- the first of full places is taken out
pub full_remove : {T : Type 0} (places : List (Option T)) → IsFull places → IsFull (remove places 0)
full_remove [] full = tt
full_remove (None ∷ places) full = absurd full
full_remove (Some it ∷ places) full = full

pub placed_remove : {T : Type 0} (places : List (Option T)) → IsFull places → placed (remove places 0) ≡ drop 1 (placed places)
placed_remove [] full = refl
placed_remove (None ∷ places) full = absurd full
placed_remove (Some it ∷ places) full = refl
