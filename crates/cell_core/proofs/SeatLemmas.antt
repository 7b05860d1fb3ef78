-- Places of a list that is set at one or has one more, and how many owners have a number then.
use Rattle.std.proofs.Common.{◌≡◌, ◌≢◌, refl, sym, ap, ◌∙◌, ℕ, zero, suc, ◌+◌, ◌<◌, ◌≤◌, ◌⊎◌, inl, inr, List, [], ◌∷◌, ◌++◌, length, arith}
use Rattle.std.specs.Prelude.{Some, ◌==◌, if◌then◌else◌}
use Rattle.std.specs.List.{slice_get, slice_set, sum_by}
use Rattle.std.proofs.lemmas.Bool.Decides.{eqb_tells}
use Rattle.std.proofs.lemmas.Option.{slice_get_within, get_or_from_slice_get}
use Rattle.std.proofs.lemmas.List.Sums.{sum_by-cons, sum_by_push, sum_by-set}
use Rattle.cell_core.specs.Shows.{holds, held, has_weakly, weaks}
use Rattle.cell_core.specs.declared.words.Owner.{Owner}

-- what is set stands there, and nothing else is moved
pub get_set_same : {X : Type 0} (xs : List X) (k : ℕ) (x : X) → k < length xs → slice_get (slice_set xs k x) k ≡ Some x
get_set_same [] k x h = absurd (omega arith)
get_set_same (y ∷ xs) zero x h = refl
get_set_same (y ∷ xs) (suc k) x h = get_set_same xs k x (omega arith)

pub get_set_other : {X : Type 0} (xs : List X) (k j : ℕ) (x : X) → j ≢ k → slice_get (slice_set xs k x) j ≡ slice_get xs j
get_set_other [] k j x h = refl
get_set_other (y ∷ xs) zero zero x h = absurd (h refl)
get_set_other (y ∷ xs) zero (suc j) x h = refl
get_set_other (y ∷ xs) (suc k) zero x h = refl
get_set_other (y ∷ xs) (suc k) (suc j) x h = get_set_other xs k j x (λ e. h (omega arith))

-- what stands at a place of a list that is set at one
pub set_cases : {X : Type 0} (xs : List X) (k j : ℕ) (x y : X) → k < length xs → slice_get (slice_set xs k x) j ≡ Some y → ((j ≡ k) × (x ≡ y)) ⊎ ((j ≢ k) × (slice_get xs j ≡ Some y))
set_cases xs k j x y l h =
    elim (eqb_tells j k) [
      | inl same ↦ (let e : slice_get (slice_set xs k x) k ≡ Some y = ap (slice_get (slice_set xs k x)) (sym same.1) ∙ h in let f = get_set_same xs k x l in inl (same.1, cc))
      | inr other ↦ inr (other.1, sym (get_set_other xs k j x other.1) ∙ h)
    ]

-- what stands at a place of a list with one more
pub get_push_old : {X : Type 0} (xs : List X) (x y : X) (j : ℕ) → slice_get xs j ≡ Some y → slice_get (xs ++ x ∷ []) j ≡ Some y
get_push_old [] x y j h = absurd (let wrong = h in cc)
get_push_old (z ∷ xs) x y zero h = h
get_push_old (z ∷ xs) x y (suc j) h = get_push_old xs x y j h

pub push_cases : {X : Type 0} (xs : List X) (x y : X) (j : ℕ) → slice_get (xs ++ x ∷ []) j ≡ Some y → (slice_get xs j ≡ Some y) ⊎ (x ≡ y)
push_cases [] x y zero h = inr (cc)
push_cases [] x y (suc j) h = absurd (let wrong = h in cc)
push_cases (z ∷ xs) x y zero h = inl h
push_cases (z ∷ xs) x y (suc j) h = push_cases xs x y j h

-- a sum over a list with one more
sum_push : {X : Type 0} (f : X → ℕ) (xs : List X) (x : X) → sum_by f (xs ++ x ∷ []) ≡ sum_by f xs + f x
sum_push f xs x = sum_by_push f xs x

-- over one that is set at a place
sum_set : {X : Type 0} (f : X → ℕ) (xs : List X) (i : ℕ) (before after : X) → slice_get xs i ≡ Some before → sum_by f (slice_set xs i after) + f before ≡ sum_by f xs + f after
sum_set f xs i before after h =
    let l = slice_get_within xs i before h in
    let there = get_or_from_slice_get xs i before before h in
    let sums = sum_by-set f xs i after before l in
    ap (λ x. sum_by f (slice_set xs i after) + f x) (sym there) ∙ sums

-- what stands at a place is counted
sum_some : {X : Type 0} (f : X → ℕ) (xs : List X) (i : ℕ) (x : X) → slice_get xs i ≡ Some x → f x ≤ sum_by f xs
sum_some f [] i x h = absurd (let wrong = h in cc)
sum_some f (y ∷ xs) zero x h =
    let more = sum_by-cons f y xs in
    let is : f y ≡ f x = ap f (let e = h in cc) in
    omega (arith, more, is)
sum_some f (y ∷ xs) (suc i) x h =
    let more = sum_by-cons f y xs in
    let some = sum_some f xs i x h in
    omega (arith, more, some)

-- a sum of nothing
sum_none : {X : Type 0} (f : X → ℕ) (xs : List X) → ((i : ℕ) (x : X) → slice_get xs i ≡ Some x → f x ≡ 0) → sum_by f xs ≡ 0
sum_none f [] h = refl
sum_none f (x ∷ xs) h =
    let more = sum_by-cons f x xs in
    let first = h 0 x refl in
    let rest = sum_none f xs (λ i. h (suc i)) in
    omega (arith, more, first, rest)

-- one owner more
pub held_push : (owners : List Owner) (owner : Owner) (j : ℕ) → held (owners ++ owner ∷ []) j ≡ held owners j + holds j owner
held_push owners owner j = sum_push (holds j) owners owner

pub weaks_push : (owners : List Owner) (owner : Owner) (j : ℕ) → weaks (owners ++ owner ∷ []) j ≡ weaks owners j + has_weakly j owner
weaks_push owners owner j = sum_push (has_weakly j) owners owner

-- an owner that has come further
pub held_set : (owners : List Owner) (i : ℕ) (before after : Owner) (j : ℕ) → slice_get owners i ≡ Some before → held (slice_set owners i after) j + holds j before ≡ held owners j + holds j after
held_set owners i before after j h = sum_set (holds j) owners i before after h

pub weaks_set : (owners : List Owner) (i : ℕ) (before after : Owner) (j : ℕ) → slice_get owners i ≡ Some before → weaks (slice_set owners i after) j + has_weakly j before ≡ weaks owners j + has_weakly j after
weaks_set owners i before after j h = sum_set (has_weakly j) owners i before after h

-- a number that an owner has is counted
pub held_some : (owners : List Owner) (i j : ℕ) (owner : Owner) → slice_get owners i ≡ Some owner → holds j owner ≤ held owners j
held_some owners i j owner h = sum_some (holds j) owners i owner h

pub weaks_some : (owners : List Owner) (i j : ℕ) (owner : Owner) → slice_get owners i ≡ Some owner → has_weakly j owner ≤ weaks owners j
weaks_some owners i j owner h = sum_some (has_weakly j) owners i owner h

-- a number that no owner has isn't
pub held_none : (owners : List Owner) (j : ℕ) → ((i : ℕ) (owner : Owner) → slice_get owners i ≡ Some owner → holds j owner ≡ 0) → held owners j ≡ 0
held_none owners j h = sum_none (holds j) owners h

pub weaks_none : (owners : List Owner) (j : ℕ) → ((i : ℕ) (owner : Owner) → slice_get owners i ≡ Some owner → has_weakly j owner ≡ 0) → weaks owners j ≡ 0
weaks_none owners j h = sum_none (has_weakly j) owners h

-- a number that is counted once
abbrev pub one_at : ℕ → ℕ → ℕ
one_at number j = if j == number then 1 else 0

pub one_at_itself : (number : ℕ) → one_at number number ≡ 1
one_at_itself number = elim (eqb_tells number number) [ inl same ↦ rw same.0 refl | inr other ↦ absurd (other.1 refl) ]

pub none_at_others : (j number : ℕ) → j ≢ number → one_at number j ≡ 0
none_at_others j number apart = elim (eqb_tells j number) [ inl same ↦ absurd (apart same.1) | inr other ↦ rw other.0 refl ]

-- what stands at a place, set there
pub set_there : {X : Type 0} (xs : List X) (k : ℕ) (x : X) → slice_get xs k ≡ Some x → xs ≡ slice_set xs k x
set_there [] k x h = refl
set_there (y ∷ xs) zero x h = let e : y ≡ x = (let f = h in cc) in ap (λ z. z ∷ xs) e
set_there (y ∷ xs) (suc k) x h = ap (λ l. y ∷ l) (set_there xs k x h)

-- one more stands behind the others
pub get_push_new : {X : Type 0} (xs : List X) (x : X) (k : ℕ) → k ≡ length xs → slice_get (xs ++ x ∷ []) k ≡ Some x
get_push_new [] x zero h = refl
get_push_new [] x (suc k) h = absurd (omega arith)
get_push_new (y ∷ xs) x zero h = absurd (omega arith)
get_push_new (y ∷ xs) x (suc k) h = get_push_new xs x k (omega arith)

-- what is within a list stands there
pub get_within : {X : Type 0} (xs : List X) (k : ℕ) → k < length xs → (x : X) × (slice_get xs k ≡ Some x)
get_within [] k h = absurd (omega arith)
get_within (y ∷ xs) zero h = (y, refl)
get_within (y ∷ xs) (suc k) h = get_within xs k (omega arith)
