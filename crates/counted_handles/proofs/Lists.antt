-- Lists of a table, read by `get_elem?`, and lists of the words on plain data, read by `slice_get`.
use Rattle.std.proofs.Common.{◌≡◌, ◌≢◌, inl, inr, refl, sym, ap, ◌∙◌, ℕ, zero, suc, ◌+◌, ◌<◌, List, [], ◌∷◌, ◌++◌, map, length, set, arith, Some}
use Rattle.std.specs.List.{slice_get, sum_by}
use Rattle.std.proofs.lemmas.List.Sums.{sum_by-cons}
use Rattle.std.specs.Prelude.{◌==◌, MatchBool}
use Rattle.std.proofs.lemmas.Bool.Decides.{eqb_tells}
use mathlib.Core.Option.{some, some-injective, some-ne-none}
use lib.ListN.{get_elem?}

-- what stands at a place, mapped
pub got_map : {A B : Type 0} (f : A → B) (xs : List A) (i : ℕ) (x : A) → get_elem? xs i ≡ some x → slice_get (map f xs) i ≡ Some (f x)
got_map f [] i x e = absurd (some-ne-none x (sym e))
got_map {A} {B} f (y ∷ xs) zero x e = ap (λ (z : A). Some (f z)) (some-injective y x e)
got_map f (y ∷ xs) (suc i) x e = got_map f xs i x e

pub map_got : {A B : Type 0} (f : A → B) (xs : List A) (i : ℕ) (y : B) → slice_get (map f xs) i ≡ Some y → (x : A) × (get_elem? xs i ≡ some x) × (f x ≡ y)
map_got f [] i y e = absurd (let wrong = e in cc)
map_got f (x ∷ xs) zero y e = (x, refl, (let h = e in cc))
map_got f (x ∷ xs) (suc i) y e = map_got f xs i y e

-- both readings tell of a place within the list
pub got_within : {A : Type 0} (xs : List A) (i : ℕ) (x : A) → get_elem? xs i ≡ some x → i < length xs
got_within [] i x e = absurd (some-ne-none x (sym e))
got_within (y ∷ xs) zero x e = omega arith
got_within (y ∷ xs) (suc i) x e = let l = got_within xs i x e in omega arith

pub within_got : {A : Type 0} (xs : List A) (i : ℕ) → i < length xs → (x : A) × (get_elem? xs i ≡ some x)
within_got [] i l = absurd (omega arith)
within_got (y ∷ xs) zero l = (y, refl)
within_got (y ∷ xs) (suc i) l = within_got xs i (omega arith)

-- a map of a list that is set at one place
pub map_set : {A B : Type 0} (f : A → B) (xs : List A) (i : ℕ) (x : A) → map f (set xs i x) ≡ set (map f xs) i (f x)
map_set f [] i x = refl
map_set f (y ∷ xs) zero x = refl
map_set f (y ∷ xs) (suc i) x = ap (λ l. f y ∷ l) (map_set f xs i x)

pub map_push : {A B : Type 0} (f : A → B) (xs : List A) (x : A) → map f (xs ++ x ∷ []) ≡ map f xs ++ f x ∷ []
map_push f [] x = refl
map_push f (y ∷ xs) x = ap (λ l. f y ∷ l) (map_push f xs x)

-- a sum over a list that is set at one place
pub sum_set : {A : Type 0} (f : A → ℕ) (xs : List A) (i : ℕ) (x y : A) → get_elem? xs i ≡ some x → sum_by f (set xs i y) + f x ≡ sum_by f xs + f y
sum_set f [] i x y e = absurd (some-ne-none x (sym e))
sum_set {A} f (z ∷ xs) zero x y e =
    let one = sum_by-cons f z xs in
    let two = sum_by-cons f y xs in
    let same : f z ≡ f x = ap (λ (a : A). f a) (some-injective z x e) in
    omega (arith, one, two, same)
sum_set f (z ∷ xs) (suc i) x y e =
    let one = sum_by-cons f z xs in
    let two = sum_by-cons f z (set xs i y) in
    let more = sum_set f xs i x y e in
    omega (arith, one, two, more)

-- what is at a place counts
pub sum_has : {A : Type 0} (f : A → ℕ) (xs : List A) (i : ℕ) (x : A) → get_elem? xs i ≡ some x → (rest : ℕ) × (rest + f x ≡ sum_by f xs)
sum_has f [] i x e = absurd (some-ne-none x (sym e))
sum_has {A} f (z ∷ xs) zero x e =
    let one = sum_by-cons f z xs in
    let same : f z ≡ f x = ap (λ (a : A). f a) (some-injective z x e) in
    (sum_by f xs, omega (arith, one, same))
sum_has f (z ∷ xs) (suc i) x e =
    let one = sum_by-cons f z xs in
    let more = sum_has f xs i x e in
    (f z + more.0, omega (arith, one, more.1))

-- what stands at one place is one thing
pub one_there : {A : Type 0} (xs : List A) (i : ℕ) (x y : A) → get_elem? xs i ≡ some x → get_elem? xs i ≡ some y → x ≡ y
one_there xs i x y e f = some-injective x y (sym e ∙ f)

-- a choice by whether two numbers are equal
pub when_equal : (n k : ℕ) (A B : Type 0) → n ≡ k → A → MatchBool (n == k) A B
when_equal n k A B e a = elim (eqb_tells n k) [ inl same ↦ rw same.0 a | inr other ↦ absurd (other.1 e) ]

pub when_apart : (n k : ℕ) (A B : Type 0) → n ≢ k → B → MatchBool (n == k) A B
when_apart n k A B ne b = elim (eqb_tells n k) [ inl same ↦ absurd (ne same.1) | inr other ↦ rw other.0 b ]
