-- Places side by side, one more or one less at the end.
use Rattle.std.proofs.Common.{◌≡◌, ℕ, zero, suc, ◌+◌, ◌<◌, arith, List, [], ◌∷◌, ◌++◌, map, length, get_or, ◌⊎◌, inl, inr, ⊎_elim, sym, refl, ap, ◌∙◌, subst}
use Rattle.std.specs.Prelude.{Option, Some, None, slice_get}
use Rattle.std.proofs.lemmas.Option.{get_or_from_slice_get}
use denote.RattleType.{RattleType}
use denote.Memory.{mem}
use denote.RawPtr.{Ptr}
use Rattle.raw_slots.specs.Chains.{after, beyond, spots_from, IsCut, IsChain, AreAlong, AreAt}
use Rattle.raw_slots.specs.declared.place.Place.{Place}
use Rattle.raw_slots.specs.declared.place.Spot.{Spot}

abbrev Full : {X : Type 0} → Option X → Type 0
Full None = ⊥
Full (Some x) = Unit {0}

abbrev got : {X : Type 0} → X → Option X → X
got d None = d
got d (Some x) = x

module _ {X : Type 0} where
  within : (xs : List X) (k : ℕ) (x : X) → slice_get xs k ≡ Some x → k < length xs
  within [] k x e = absurd (subst Full (sym e) tt)
  within (y ∷ ys) zero x e = omega arith
  within (y ∷ ys) (suc k) x e = omega (arith, within ys k x e)

  get_at : (xs : List X) (k : ℕ) → k < length xs → (x : X) × (slice_get xs k ≡ Some x)
  get_at [] k l = absurd (omega arith)
  get_at (y ∷ ys) zero l = (y, refl)
  get_at (y ∷ ys) (suc k) l = get_at ys k (omega arith)

  snoc_at : (xs : List X) (x y : X) (k : ℕ) → slice_get (xs ++ x ∷ []) k ≡ Some y → (slice_get xs k ≡ Some y) ⊎ ((k ≡ length xs) × (x ≡ y))
  snoc_at [] x y zero e = inr (refl, ap (got x) e)
  snoc_at [] x y (suc k) e = absurd (subst Full (sym e) tt)
  snoc_at (z ∷ zs) x y zero e = inl e
  snoc_at (z ∷ zs) x y (suc k) e = ⊎_elim (λ h. inl h) (λ t. inr (ap suc t.0, t.1)) (snoc_at zs x y k e)

  longer_at : (xs : List X) (x y : X) (k : ℕ) → slice_get xs k ≡ Some y → slice_get (xs ++ x ∷ []) k ≡ Some y
  longer_at [] x y k e = absurd (subst Full (sym e) tt)
  longer_at (z ∷ zs) x y zero e = e
  longer_at (z ∷ zs) x y (suc k) e = longer_at zs x y k e

  at_end : (xs : List X) (x : X) → slice_get (xs ++ x ∷ []) (length xs) ≡ Some x
  at_end [] x = refl
  at_end (z ∷ zs) x = at_end zs x

  pub length_snoc : (xs : List X) (x : X) → length (xs ++ x ∷ []) ≡ suc (length xs)
  length_snoc [] x = refl
  length_snoc (z ∷ zs) x = ap suc (length_snoc zs x)

  module _ {Y : Type 0} (v : X → Y) where
    pub map_snoc : (xs : List X) (x : X) (ys : List Y) → map v (xs ++ x ∷ []) ++ ys ≡ map v xs ++ v x ∷ ys
    map_snoc [] x ys = refl
    map_snoc (z ∷ zs) x ys = ap (λ (l : List Y). v z ∷ l) (map_snoc zs x ys)

    at_here : (xs : List X) (y : Y) (ys : List Y) → slice_get (map v xs ++ y ∷ ys) (length xs) ≡ Some y
    at_here [] y ys = refl
    at_here (z ∷ zs) y ys = at_here zs y ys

module _ (R : RattleType) {V : Type 0} (p : Ptr) where
  pub cut_more : (values : List R.Denot) (places : List (Place R.Denot V)) (spots : List (Spot R.Denot)) (x : Place R.Denot V) (s : Spot R.Denot) (ys : List R.Denot) → IsCut R p values places spots
      → x.at ≡ after R p (length places) → x.stake ≡ [] → s.at ≡ x.at → map (λ (y : Place R.Denot V). y.value) places ++ x.value ∷ ys ≡ values → IsCut R p values (places ++ x ∷ []) (spots ++ s ∷ [])
  cut_more values places spots x s ys c at bare same whole = record {
    size = length_snoc spots s ∙ ap suc c.size ∙ sym (length_snoc places x);
    each = λ k y e. ⊎_elim (λ h. c.each k y h)
        (λ t. subst (λ (u : Place R.Denot V). (u.at ≡ after R p k) × (u.stake ≡ []) × (slice_get values k ≡ Some u.value)) t.1
        (subst (λ (j : ℕ). (x.at ≡ after R p j) × (x.stake ≡ []) × (slice_get values j ≡ Some x.value)) (sym t.0)
        (at, bare, subst (λ (l : List R.Denot). slice_get l (length places) ≡ Some x.value) whole (at_here (λ (y : Place R.Denot V). y.value) places x.value ys))))
        (snoc_at places x y k e);
    where_each = λ k y e. ⊎_elim (λ h. c.where_each k y h) (λ t. ap (λ (u : Spot R.Denot). u.at) (sym t.1) ∙ same ∙ at ∙ ap (after R p) (sym c.size ∙ sym t.0)) (snoc_at spots s y k e);
  }

  pub none_cut : (values : List R.Denot) → IsCut R {V = V} p values [] []
  none_cut values = record { size = refl; each = λ k y e. absurd (subst Full (sym e) tt); where_each = λ k y e. absurd (subst Full (sym e) tt) }

  pub chain_last : (ps : List (Place R.Denot V)) (x : Place R.Denot V) → IsChain R p (ps ++ x ∷ []) → (x.at ≡ after R p (length ps)) × (x.stake ≡ [])
  chain_last ps x c = c.each (length ps) x (at_end ps x)

  pub chain_less : (ps : List (Place R.Denot V)) (x : Place R.Denot V) → IsChain R p (ps ++ x ∷ []) → IsChain R p ps
  chain_less ps x c = record { each = λ k y e. c.each k y (longer_at ps x y k e) }

-- the number j behind k
abbrev behind : ℕ → ℕ → ℕ
behind k zero = k
behind k (suc j) = behind (suc k) j

behind_first : (k j : ℕ) → behind k j ≡ k + j
behind_first k zero = omega arith
behind_first k (suc j) = behind_first (suc k) j ∙ omega arith

behind_none : (j : ℕ) → behind 0 j ≡ j
behind_none j = omega (arith, behind_first 0 j)

module _ (T : Type 0) (bytes : ℕ) (p : Ptr) where
  spots_size : (k n : ℕ) → length (spots_from {T = T} bytes p k n) ≡ n
  spots_size k zero = refl
  spots_size k (suc n) = ap suc (spots_size (suc k) n)

  spot_at : (k n j : ℕ) (s : Spot T) → slice_get (spots_from bytes p k n) j ≡ Some s → s.at ≡ beyond bytes p (behind k j)
  spot_at k zero j s e = absurd (subst Full (sym e) tt)
  spot_at k (suc n) zero s e = ap (λ (u : Spot T). u.at) (sym (ap (got s) e))
  spot_at k (suc n) (suc j) s e = spot_at (suc k) n j s e

  pub along_from : (n : ℕ) → AreAlong bytes p n (spots_from {T = T} bytes p 0 n)
  along_from n = record { size = spots_size 0 n; each = λ k s e. spot_at 0 n k s e ∙ ap (beyond bytes p) (behind_none k) }

  spots_are : (spots : List (Spot T)) (k : ℕ) → ((j : ℕ) (s : Spot T) → slice_get spots j ≡ Some s → s.at ≡ beyond bytes p (behind k j)) → spots ≡ spots_from bytes p k (length spots)
  spots_are [] k each = refl
  spots_are (s ∷ ss) k each = λ i. record { at = each 0 s refl i } ∷ spots_are ss (suc k) (λ j t e. each (suc j) t e) i

  pub along_is : (n : ℕ) (spots : List (Spot T)) → AreAlong bytes p n spots → spots ≡ spots_from bytes p 0 n
  along_is n spots a = spots_are spots 0 (λ j s e. a.each j s e ∙ ap (beyond bytes p) (sym (behind_none j))) ∙ ap (spots_from bytes p 0) a.size

module _ (R : RattleType) (p : Ptr) {V : Type 0} where
  pub cut_along : (values : List R.Denot) (places : List (Place R.Denot V)) (spots : List (Spot R.Denot)) (n : ℕ) → IsCut R p values places spots → length places ≡ n → AreAlong (mem R).size p n spots
  cut_along values places spots n c e = record { size = c.size ∙ e; each = c.where_each }

  pub cut_at : (values : List R.Denot) (places : List (Place R.Denot V)) (spots : List (Spot R.Denot)) → IsCut R p values places spots → AreAt spots places
  cut_at values places spots c = record {
    size = c.size;
    each = λ k x e. let is = c.each k x e in let there = get_at spots k (subst (λ (n : ℕ). k < n) (sym c.size) (within places k x e)) in (is.1, (there.0, there.1, is.0 ∙ sym (c.where_each k there.0 there.1)));
  }

  pub first_at : (values : List R.Denot) (places : List (Place R.Denot V)) (spots : List (Spot R.Denot)) (first : Spot R.Denot) → IsCut R p values places spots → 0 < length places → first ≡ get_or spots 0 first → first.at ≡ p
  first_at values places spots first c some read =
      let there = get_at spots 0 (subst (λ (n : ℕ). 0 < n) (sym c.size) some) in
      ap (λ (u : Spot R.Denot). u.at) (read ∙ get_or_from_slice_get spots 0 there.0 first there.1) ∙ c.where_each 0 there.0 there.1

  pub chain_of : (n : ℕ) (spots : List (Spot R.Denot)) (places : List (Place R.Denot V)) → AreAlong (mem R).size p n spots → AreAt spots places → IsChain R p places
  chain_of n spots places a are = record { each = λ k x e. let is = are.each k x e in (is.1.2 ∙ a.each k is.1.0 is.1.1, is.0) }
