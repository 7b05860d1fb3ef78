-- The slots of a closed table, taken from the last one on.
use Rattle.std.proofs.Common.{◌≡◌, refl, sym, ap, ◌∙◌, subst, ℕ, zero, suc, ◌-◌, ◌<◌, ◌≤◌, Bool, true, false, inl, inr, List, [], ◌∷◌, get_or, set, arith, Some}
use Rattle.std.specs.List.{slice_get}
use Rattle.std.proofs.lemmas.List.{get_or-set_other}
use Rattle.std.proofs.lemmas.Bool.Decides.{eqb_tells}
use mathlib.Core.Option.{some, some-injective, some-ne-none}
use lib.ListN.{get_elem?}
use denote.RattleType.{RattleType}
use denote.RawPtr.{Ptr}
use Rattle.raw_slots.specs.Chains.{after, IsChain}
use Rattle.raw_slots.specs.Rows.{next_to}
use Rattle.raw_slots.specs.declared.place.Place.{Place}

-- both readings of a list tell one thing
got : {X : Type 0} (xs : List X) (i : ℕ) (x : X) → get_elem? xs i ≡ some x → slice_get xs i ≡ Some x
got [] i x e = absurd (some-ne-none x (sym e))
got {X} (y ∷ xs) zero x e = ap (λ (z : X). Some z) (some-injective y x e)
got (y ∷ xs) (suc i) x e = got xs i x e

cleared : (xs : List Bool) (i : ℕ) → get_or (set xs i false) i false ≡ false
cleared [] i = refl
cleared (y ∷ xs) zero = refl
cleared (y ∷ xs) (suc i) = cleared xs i

-- the last of the first n is taken: those before it are there still, and it isn't
pub still_there : (xs : List Bool) (n k : ℕ) → 0 < n → ((j : ℕ) → 0 ≤ j → j < n → get_or xs j false ≡ true) → k < n - 1 → get_or (set xs (n - 1) false) k false ≡ true
still_there xs n k some_left full l = get_or-set_other xs (n - 1) k false false (λ e. omega (arith, e, l)) ∙ full k (omega arith) (omega (arith, l))

pub gone_from : (xs : List Bool) (n count k : ℕ) → 0 < n → ((j : ℕ) → n ≤ j → j < count → get_or xs j false ≡ false) → n - 1 ≤ k → k < count → get_or (set xs (n - 1) false) k false ≡ false
gone_from xs n count k some_left gone from below =
    elim (eqb_tells k (n - 1)) [
      | inl same ↦ subst (λ j. get_or (set xs (n - 1) false) j false ≡ false) (sym same.1) (cleared xs (n - 1))
      | inr other ↦ get_or-set_other xs (n - 1) k false false other.1 ∙ gone k (omega (arith, from, other.1, some_left)) below
    ]

-- the place that is taken lies right before the row
pub lies_before : (R : RattleType) {V : Type 0} (p at : Ptr) (places : List (Place R.Denot V)) (n : ℕ) (x : Place R.Denot V) → IsChain R p places → 0 < n → at ≡ after R p n → get_elem? places (n - 1) ≡ some x → (x.stake ≡ []) × (at ≡ next_to R x.at) × (x.at ≡ after R p (n - 1))
lies_before R p at places n x chain some_left is e =
    let its = chain.each (n - 1) x (got places (n - 1) x e) in
    let next : n ≡ suc (n - 1) = omega (arith, some_left) in
    (its.1, is ∙ ap (after R p) next ∙ ap (next_to R) (sym its.0), its.0)
