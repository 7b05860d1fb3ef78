-- Facts on lists: of tests that answer alike along a list or a part of it, and of lists whose elements stand in a relation,
-- each to all behind it.
use Rattle.std.proofs.Common.{◌≡◌, refl, sym, ap, ◌∙◌, ℕ, zero, suc, ◌+◌, ◌-◌, ◌<◌, ◌≤◌, Bool, true, false, ◌&&◌, ◌||◌, cond, List, [], ◌∷◌, ◌++◌, map, length, get_or, take, drop, true≢false, arith, Some}
use Rattle.std.specs.Option.{IfSome, option_to_list}
use Rattle.std.specs.List.{filter, find, list_any, AllPairs, AllAdjacentBelow, AllWithin, AllByRecursion, flat_map}
use Rattle.std.proofs.lemmas.List.Folds.{list_any-append}
use Rattle.std.proofs.lemmas.List.Elements.{All-from_recursion, recursion_from_All, filter-append}

module _ {X : Type 0} (p : X → Bool) where
  -- where a test answers alike along a list, a filter keeps all or none
  pub filter_alike : (b : Bool) (xs : List X) → AllByRecursion (λ x. p x ≡ b) xs → filter p xs ≡ cond b xs []
  filter_alike true [] h = refl
  filter_alike false [] h = refl
  filter_alike true (x ∷ xs) h = rw h.0 (ap (λ l. x ∷ l) (filter_alike true xs h.1))
  filter_alike false (x ∷ xs) h = rw h.0 (filter_alike false xs h.1)

  -- and of such a list that isn't empty, any answers so too
  pub any_alike : (b : Bool) (xs : List X) → 0 < length xs → AllByRecursion (λ x. p x ≡ b) xs → list_any p xs ≡ b
  any_alike b [] l h = absurd (omega arith)
  any_alike true (x ∷ xs) l h = rw h.0 refl
  any_alike false (x ∷ []) l h = rw h.0 refl
  any_alike false (x ∷ y ∷ xs) l h = rw h.0 (any_alike false (y ∷ xs) (omega arith) h.1)

  -- a filter keeps the front, where the test passes there and nowhere behind
  pub filter_front : (xs : List X) (high : ℕ) → high ≤ length xs → AllWithin (λ x. p x ≡ true) xs 0 high → AllWithin (λ x. p x ≡ false) xs high (length xs) → filter p xs ≡ take high xs
  filter_front [] zero l h k = refl
  filter_front [] (suc high) l h k = absurd (omega arith)
  filter_front (x ∷ xs) zero l h k = rw (k 0 x (omega arith) (omega arith)) (filter_front xs 0 (omega arith) (λ i d a b. absurd (omega arith)) (λ i d a b. k (suc i) d (omega arith) (omega arith)))
  filter_front (x ∷ xs) (suc high) l h k =
      rw (h 0 x (omega arith) (omega arith)) (ap (λ l. x ∷ l) (filter_front xs high (omega arith) (λ i d a b. h (suc i) d (omega arith) (omega arith)) (λ i d a b. k (suc i) d (omega arith) (omega arith))))

  -- a filter keeps the part from one place to another, where the test passes there and nowhere else
  pub filter_part : (xs : List X) (low high : ℕ) → low ≤ high → high ≤ length xs → AllWithin (λ x. p x ≡ false) xs 0 low → AllWithin (λ x. p x ≡ true) xs low high → AllWithin (λ x. p x ≡ false) xs high (length xs) → filter p xs ≡ take (high - low) (drop low xs)
  filter_part xs zero high le l h k m =
      let e : high - 0 ≡ high = omega arith in
      rw e (filter_front xs high l k m)
  filter_part [] (suc low) high le l h k m = absurd (omega arith)
  filter_part (x ∷ xs) (suc low) zero le l h k m = absurd (omega arith)
  filter_part (x ∷ xs) (suc low) (suc high) le l h k m =
      let e : suc high - suc low ≡ high - low = omega arith in
      rw (h 0 x (omega arith) (omega arith), e) (filter_part xs low high (omega arith) (omega arith) (λ i d a b. h (suc i) d (omega arith) (omega arith)) (λ i d a b. k (suc i) d (omega arith) (omega arith)) (λ i d a b. m (suc i) d (omega arith) (omega arith)))

  -- where any passes, one at some place does
  place_by : (d x : X) (xs : List X) (b : Bool) → p x ≡ b → b || list_any p xs ≡ true → (list_any p xs ≡ true → (k : ℕ) × (k < length xs) × (p (get_or xs k d) ≡ true)) → (k : ℕ) × (k < length (x ∷ xs)) × (p (get_or (x ∷ xs) k d) ≡ true)
  place_by d x xs true e h more = (0, omega arith, e)
  place_by d x xs false e h more =
      let found = more h in
      (suc found.0, omega (arith, found.1), found.2)

  pub place_from_any : (xs : List X) (d : X) → list_any p xs ≡ true → (k : ℕ) × (k < length xs) × (p (get_or xs k d) ≡ true)
  place_from_any [] d h = absurd (true≢false (sym h))
  place_from_any (x ∷ xs) d h = place_by d x xs (p x) refl h (place_from_any xs d)

  or_first : (b c : Bool) → (c ≡ true → b ≡ true) → b || c ≡ b
  or_first true c f = refl
  or_first false true f = sym (f refl)
  or_first false false f = refl

  -- whether any passes, where none does before a place and, if one behind it does, the one at it
  pub any_from_place : (xs : List X) (low : ℕ) (e : X) → low < length xs → AllWithin (λ x. p x ≡ false) xs 0 low → ((k : ℕ) (d : X) → low ≤ k → k < length xs → p (get_or xs k d) ≡ true → p (get_or xs low d) ≡ true) → list_any p xs ≡ p (get_or xs low e)
  any_from_place [] low e l h k = absurd (omega arith)
  any_from_place (x ∷ xs) zero e l h k = or_first (p x) (list_any p xs) (λ any. let found = place_from_any xs x any in k (suc found.0) x (omega arith) (omega (arith, found.1)) found.2)
  any_from_place (x ∷ xs) (suc low) e l h k = rw (h 0 x (omega arith) (omega arith)) (any_from_place xs low e (omega arith) (λ i d a b. h (suc i) d (omega arith) (omega arith)) (λ i d a b. k (suc i) d (omega arith) (omega arith)))

-- facts by recursion on a list
module _ {X : Type 0} where
  pub each_weaker : (P Q : X → Type 0) → ((x : X) → P x → Q x) → (xs : List X) → AllByRecursion P xs → AllByRecursion Q xs
  each_weaker P Q f [] h = tt
  each_weaker P Q f (x ∷ xs) h = (f x h.0, each_weaker P Q f xs h.1)

  pub each_append : (P : X → Type 0) (xs ys : List X) → AllByRecursion P xs → AllByRecursion P ys → AllByRecursion P (xs ++ ys)
  each_append P [] ys h k = k
  each_append P (x ∷ xs) ys h k = (h.0, each_append P xs ys h.1 k)

  pub each_both : (P Q : X → Type 0) (xs : List X) → AllByRecursion P xs → AllByRecursion Q xs → AllByRecursion (λ x. P x × Q x) xs
  each_both P Q [] h k = tt
  each_both P Q (x ∷ xs) h k = ((h.0, k.0), each_both P Q xs h.1 k.1)

  -- each element stands in the relation to all behind it
  abbrev pub Rises : (X → X → Type 0) → List X → Type 0
  Rises R [] = Unit {0}
  Rises R (x ∷ xs) = AllByRecursion (R x) xs × Rises R xs

  pub Rises-append : (R : X → X → Type 0) (xs ys : List X) → Rises R xs → Rises R ys → AllByRecursion (λ x. AllByRecursion (R x) ys) xs → Rises R (xs ++ ys)
  Rises-append R [] ys h k m = k
  Rises-append R (x ∷ xs) ys h k m = (each_append (R x) xs ys h.0 m.0, Rises-append R xs ys h.1 k m.1)

  pub Rises-behind : (R : X → X → Type 0) (xs ys : List X) → Rises R (xs ++ ys) → Rises R ys
  Rises-behind R [] ys h = h
  Rises-behind R (x ∷ xs) ys h = Rises-behind R xs ys h.1

  pub rises_weaker : (R S : X → X → Type 0) → ((x y : X) → R x y → S x y) → (xs : List X) → Rises R xs → Rises S xs
  rises_weaker R S f [] h = tt
  rises_weaker R S f (x ∷ xs) h = (each_weaker (R x) (S x) (f x) xs h.0, rises_weaker R S f xs h.1)

  pub pairs_from_rises : (R : X → X → Type 0) (xs : List X) → Rises R xs → AllPairs R xs
  pairs_from_rises R [] h i j d l m = absurd (omega arith)
  pairs_from_rises R (x ∷ xs) h zero zero d l m = absurd (omega arith)
  pairs_from_rises R (x ∷ xs) h zero (suc j) d l m = All-from_recursion (R x) xs h.0 j d (omega arith)
  pairs_from_rises R (x ∷ xs) h (suc i) zero d l m = absurd (omega arith)
  pairs_from_rises R (x ∷ xs) h (suc i) (suc j) d l m = pairs_from_rises R xs h.1 i j d (omega arith) (omega arith)

  pub rises_from_pairs : (R : X → X → Type 0) (xs : List X) → AllPairs R xs → Rises R xs
  rises_from_pairs R [] h = tt
  rises_from_pairs R (x ∷ xs) h = (recursion_from_All (R x) xs (λ k d l. h 0 (suc k) d (omega arith) (omega arith)), rises_from_pairs R xs (λ i j d l m. h (suc i) (suc j) d (omega arith) (omega arith)))

  -- where the relation chains, neighbours are enough
  pub rises_from_adjacent : (R : X → X → Type 0) → ((x y z : X) → R x y → R y z → R x z) → (xs : List X) → AllAdjacentBelow R xs (length xs) → Rises R xs
  rises_from_adjacent R chain [] h = tt
  rises_from_adjacent R chain (x ∷ []) h = (tt, tt)
  rises_from_adjacent R chain (x ∷ y ∷ xs) h =
      let rest = rises_from_adjacent R chain (y ∷ xs) (λ k d l. let e : suc k + 1 ≡ suc (k + 1) = omega arith in rw e at (h (suc k) d (omega arith))) in
      let first : R x y = h 0 x (omega arith) in
      ((first, each_weaker (R y) (R x) (λ z. chain x y z first) xs rest.0), rest)

-- through a map
-- what holds of each and of all pairs holds of those that a filter keeps
module _ {X : Type 0} (p : X → Bool) where
  each_kept : (P : X → Type 0) (x : X) (kept : List X) (b : Bool) → P x → AllByRecursion P kept → AllByRecursion P (cond b (x ∷ kept) kept)
  each_kept P x kept true here h = (here, h)
  each_kept P x kept false here h = h

  pub each_filter : (P : X → Type 0) (xs : List X) → AllByRecursion P xs → AllByRecursion P (filter p xs)
  each_filter P [] h = tt
  each_filter P (x ∷ xs) h = each_kept P x (filter p xs) (p x) h.0 (each_filter P xs h.1)

  rises_kept : (R : X → X → Type 0) (x : X) (kept : List X) (b : Bool) → AllByRecursion (R x) kept → Rises R kept → Rises R (cond b (x ∷ kept) kept)
  rises_kept R x kept true here h = (here, h)
  rises_kept R x kept false here h = h

  pub Rises-filter : (R : X → X → Type 0) (xs : List X) → Rises R xs → Rises R (filter p xs)
  Rises-filter R [] h = tt
  Rises-filter R (x ∷ xs) h = rises_kept R x (filter p xs) (p x) (each_filter (R x) xs h.0) (Rises-filter R xs h.1)

pub each_map : {X Y : Type 0} (P : Y → Type 0) (f : X → Y) (xs : List X) → AllByRecursion (λ x. P (f x)) xs → AllByRecursion P (map f xs)
each_map P f [] h = tt
each_map P f (x ∷ xs) h = (h.0, each_map P f xs h.1)

pub Rises-map : {X Y : Type 0} (R : Y → Y → Type 0) (f : X → Y) (xs : List X) → Rises (λ x y. R (f x) (f y)) xs → Rises R (map f xs)
Rises-map R f [] h = tt
Rises-map R f (x ∷ xs) h = (each_map (R (f x)) f xs h.0, Rises-map R f xs h.1)

pub each_always : {X : Type 0} (P : X → Type 0) → ((x : X) → P x) → (xs : List X) → AllByRecursion P xs
each_always P f [] = tt
each_always P f (x ∷ xs) = (f x, each_always P f xs)

-- of a list in which no two elements pass, a filter keeps the first that does
pub filter_one : {X : Type 0} (p : X → Bool) (xs : List X) → Rises (λ x y. p x ≡ true → p y ≡ false) xs → filter p xs ≡ option_to_list (find p xs)
filter_one p [] h = refl
filter_one {X} p (x ∷ xs) h = by (p x) refl (filter_one p xs h.1)
  where
    by : (b : Bool) → p x ≡ b → filter p xs ≡ option_to_list (find p xs) → cond b (x ∷ filter p xs) (filter p xs) ≡ option_to_list (cond b (Some x) (find p xs))
    by true e k = ap (λ l. x ∷ l) (filter_alike p false xs (each_weaker (λ y. p x ≡ true → p y ≡ false) (λ y. p y ≡ false) (λ y f. f e) xs h.0))
    by false e k = k

-- what a find gives is among the list, and passes
pub found_passes : {X : Type 0} (P : X → Type 0) (p : X → Bool) (xs : List X) → AllByRecursion P xs → IfSome (find p xs) P
found_passes P p [] h = tt
found_passes {X} P p (x ∷ xs) h = by (p x) (found_passes P p xs h.1)
  where
    by : (b : Bool) → IfSome (find p xs) P → IfSome (cond b (Some x) (find p xs)) P
    by true k = h.0
    by false k = k

pub find_filter : {X : Type 0} (p q : X → Bool) (xs : List X) → find (λ x. p x && q x) xs ≡ find q (filter p xs)
find_filter p q [] = refl
find_filter {X} p q (x ∷ xs) = by (p x) (find_filter p q xs)
  where
    by : (b : Bool) → find (λ x. p x && q x) xs ≡ find q (filter p xs) → cond (b && q x) (Some x) (find (λ x. p x && q x) xs) ≡ find q (cond b (x ∷ filter p xs) (filter p xs))
    by true e = ap (λ l. cond (q x) (Some x) l) e
    by false e = e

-- tests and facts of the elements of lists that are joined, by those of the lists
module _ {X : Type 0} where
  pub each_joined : (P : X → Type 0) (xss : List (List X)) → AllByRecursion (AllByRecursion P) xss → AllByRecursion P (flat_map (λ xs. xs) xss)
  each_joined P [] h = tt
  each_joined P (xs ∷ xss) h = each_append P xs (flat_map (λ ys. ys) xss) h.0 (each_joined P xss h.1)

  module _ (p : X → Bool) (f : List X → Bool) where
    -- each element of a list answers as the list does
    abbrev pub Agree : List (List X) → Type 0
    Agree xss = AllByRecursion (λ xs. AllByRecursion (λ x. p x ≡ f xs) xs) xss

    pub filter_joined : (xss : List (List X)) → Agree xss → filter p (flat_map (λ xs. xs) xss) ≡ flat_map (λ xs. xs) (filter f xss)
    filter_joined [] h = refl
    filter_joined (xs ∷ xss) h = filter-append p xs (flat_map (λ ys. ys) xss) ∙ rw (filter_alike p (f xs) xs h.0, filter_joined xss h.1) (pick (f xs))
      where
        pick : (b : Bool) → cond b xs [] ++ flat_map (λ ys. ys) (filter f xss) ≡ flat_map (λ ys. ys) (cond b (xs ∷ filter f xss) (filter f xss))
        pick true = refl
        pick false = refl

    pub any_joined : (xss : List (List X)) → AllByRecursion (λ xs. 0 < length xs) xss → Agree xss → list_any p (flat_map (λ xs. xs) xss) ≡ list_any f xss
    any_joined [] s h = refl
    any_joined (xs ∷ xss) s h = list_any-append p xs (flat_map (λ ys. ys) xss) ∙ rw (any_alike p (f xs) xs s.0 h.0, any_joined xss s.1 h.1) refl
