-- What is taken out of a list where a place was found.
use Rattle.std.proofs.Common.{◌≡◌, refl, sym, ap, ℕ, suc, ◌+◌, ◌<◌, Bool, true, false, arith, Some, None, List, [], ◌∷◌, length, not, ◌≤◌}
use Rattle.std.proofs.lemmas.Bool.Decides.{nat_tests}
use Rattle.std.specs.Prelude.{filter, remove, position, find, slice_index_or}
use Rattle.std.specs.List.{position_or_len}

-- what is left where the first that passes is taken out, and then each other that passes
rest_left : {X : Type 0} (p : X → Bool) (xs : List X) → position_or_len p xs < length xs → filter (λ x. not (p x)) (remove xs (position_or_len p xs)) ≡ filter (λ x. not (p x)) xs
rest_left p [] within = absurd (omega (arith, within))
rest_left {X} p (x ∷ xs) within = by (rest_left p xs) (p x) refl
  where
    by : (position_or_len p xs < length xs → filter (λ y. not (p y)) (remove xs (position_or_len p xs)) ≡ filter (λ y. not (p y)) xs) → (b : Bool) → p x ≡ b → filter (λ y. not (p y)) (remove (x ∷ xs) (position_or_len p (x ∷ xs))) ≡ filter (λ y. not (p y)) (x ∷ xs)
    by more true e = rw e refl
    by more false e = let w : suc (1 + position_or_len p xs) ≤ suc (length xs) = rw e at within in
        let s : 1 + position_or_len p xs ≡ suc (position_or_len p xs) = omega arith in
        rw (e, s, e) (ap (λ (l : List X). x ∷ l) (more (omega (arith, w))))

-- where none passes, all are left, and none is found
all_left : {X : Type 0} (p : X → Bool) (xs : List X) → length xs ≤ position_or_len p xs → (filter (λ x. not (p x)) xs ≡ xs) × (find p xs ≡ None)
all_left p [] none = (refl, refl)
all_left {X} p (x ∷ xs) none = by (all_left p xs) (p x) refl
  where
    by : (length xs ≤ position_or_len p xs → (filter (λ y. not (p y)) xs ≡ xs) × (find p xs ≡ None)) → (b : Bool) → p x ≡ b → (filter (λ y. not (p y)) (x ∷ xs) ≡ x ∷ xs) × (find p (x ∷ xs) ≡ None)
    by more true e = absurd (let w : suc (length xs) ≤ 0 = rw e at none in omega (arith, w))
    by more false e = let w : suc (length xs) ≤ 1 + position_or_len p xs = rw e at none in
        let m = more (omega (arith, w)) in
        (rw e (ap (λ (l : List X). x ∷ l) m.0), rw e m.1)

-- the first that passes is found at its place
found_there : {X : Type 0} (p : X → Bool) (xs : List X) (x : X) → position_or_len p xs < length xs → x ≡ slice_index_or xs (position_or_len p xs) x → find p xs ≡ Some x
found_there p [] y within is = absurd (omega (arith, within))
found_there {X} p (x ∷ xs) y within is = by (found_there p xs y) (p x) refl
  where
    by : (position_or_len p xs < length xs → y ≡ slice_index_or xs (position_or_len p xs) y → find p xs ≡ Some y) → (b : Bool) → p x ≡ b → find p (x ∷ xs) ≡ Some y
    by more true e = let w : y ≡ x = rw e at is in rw e (ap (λ (z : X). Some z) (sym w))
    by more false e = let w : suc (1 + position_or_len p xs) ≤ suc (length xs) = rw e at within in
        let s : 1 + position_or_len p xs ≡ suc (position_or_len p xs) = omega arith in
        let v : y ≡ slice_index_or xs (position_or_len p xs) y = rw (e, s) at is in
        rw e (more (omega (arith, w)) v)

-- what is taken out is the first that passes, and what is left has none that passes
pub taken : {X : Type 0} (p : X → Bool) (xs : List X) (at : ℕ) (x : X) → position p xs ≡ Some at → x ≡ slice_index_or xs at x → (find p xs ≡ Some x) × (filter (λ y. not (p y)) (remove xs at) ≡ filter (λ y. not (p y)) xs)
taken p xs at x is read =
    let within : position_or_len p xs < length xs = grind (arith, nat_tests) in
    let there : at ≡ position_or_len p xs = grind (arith, nat_tests) in
    (found_there p xs x within (rw there at read), rw there (rest_left p xs within))

-- where none passes, there is nothing to take out
pub none_taken : {X : Type 0} (p : X → Bool) (xs : List X) → position p xs ≡ None → (filter (λ y. not (p y)) xs ≡ xs) × (find p xs ≡ None)
none_taken p xs none = all_left p xs (grind (arith, nat_tests))
