-- Facts on lists and tests.
use Rattle.std.proofs.Common.{◌≡◌, Bool, true, false, not, ◌&&◌, ◌||◌, cond, List, [], ◌∷◌, map, filter, refl, ap, ◌∙◌}
use Rattle.std.specs.List.{list_any, list_all}

-- a choice by a test
pub by_test : {A : Type 0} (P : A → Type 0) (b : Bool) (x y : A) → (b ≡ true → P x) → (b ≡ false → P y) → P (cond b x y)
by_test P true x y on_true on_false = on_true refl
by_test P false x y on_true on_false = on_false refl

-- a conjunction that holds, and one that doesn't
pub and_left : (a b : Bool) → (a && b) ≡ true → a ≡ true
and_left true b h = refl
and_left false b h = absurd (cc)

pub and_right : (a b : Bool) → (a && b) ≡ true → b ≡ true
and_right true b h = h
and_right false b h = absurd (cc)

pub both_true : (a : Bool) → (a && true) ≡ a
both_true true = refl
both_true false = refl

pub either_right : (a b : Bool) → b ≡ true → (a || b) ≡ true
either_right true b h = refl
either_right false b h = h

pub implied : (b c : Bool) → (b ≡ true → c ≡ true) → (not b || c) ≡ true
implied true c f = f refl
implied false c f = refl

-- tests that fail, and one whose opposite does
pub is_not : (b : Bool) → not b ≡ true → b ≡ false
is_not true e = absurd (cc)
is_not false e = refl

pub is_so : (b : Bool) → not b ≡ false → b ≡ true
is_so true e = refl
is_so false e = absurd (cc)

pub both_fail : (a b : Bool) → (a || b) ≡ false → (a ≡ false) × (b ≡ false)
both_fail true b e = absurd (cc)
both_fail false b e = (refl, e)

pub left_fails : (a b : Bool) → (a && b) ≡ false → b ≡ true → a ≡ false
left_fails true b e is = absurd (cc)
left_fails false b e is = refl

pub right_fails : (a b : Bool) → (a && b) ≡ false → a ≡ true → b ≡ false
right_fails true b e is = e
right_fails false b e is = absurd (cc)

-- a test that is a conjunction, where one side is known
pub by_left : (x a b : Bool) → x ≡ (a && b) → a ≡ true → x ≡ b
by_left x true b e h = e
by_left x false b e h = absurd (cc)

pub not_left : (x a b : Bool) → x ≡ (a && b) → a ≡ false → x ≡ false
not_left x true b e h = absurd (cc)
not_left x false b e h = e

-- filters by tests that agree keep the same
pub filter_alike : {X : Type 0} (p q : X → Bool) → ((x : X) → p x ≡ q x) → (xs : List X) → filter p xs ≡ filter q xs
filter_alike p q alike [] = refl
filter_alike p q alike (x ∷ xs) =
    ap (λ b. cond b (x ∷ filter p xs) (filter p xs)) (alike x) ∙ ap (λ ys. cond (q x) (x ∷ ys) ys) (filter_alike p q alike xs)

-- tests of what a filter keeps
pub all_kept : {X : Type 0} (p q : X → Bool) (xs : List X) → list_all p (filter q xs) ≡ list_all (λ x. not (q x) || p x) xs
all_kept p q [] = refl
all_kept {X} p q (x ∷ xs) =
    kept (q x) ∙ ap (λ b. (not (q x) || p x) && b) (all_kept p q xs)
  where
    kept : (b : Bool) → list_all p (cond b (x ∷ filter q xs) (filter q xs)) ≡ ((not b || p x) && list_all p (filter q xs))
    kept true = refl
    kept false = refl

pub any_kept : {X : Type 0} (p q : X → Bool) (xs : List X) → list_any p (filter q xs) ≡ list_any (λ x. q x && p x) xs
any_kept p q [] = refl
any_kept {X} p q (x ∷ xs) =
    kept (q x) ∙ ap (λ b. (q x && p x) || b) (any_kept p q xs)
  where
    kept : (b : Bool) → list_any p (cond b (x ∷ filter q xs) (filter q xs)) ≡ ((b && p x) || list_any p (filter q xs))
    kept true = refl
    kept false = refl

-- tests that agree
pub all_alike : {X : Type 0} (p q : X → Bool) → ((x : X) → p x ≡ q x) → (xs : List X) → list_all p xs ≡ list_all q xs
all_alike p q alike [] = refl
all_alike p q alike (x ∷ xs) = ap (λ b. b && list_all p xs) (alike x) ∙ ap (λ b. q x && b) (all_alike p q alike xs)

pub any_mapped : {X Y : Type 0} (p : Y → Bool) (f : X → Y) (xs : List X) → list_any p (map f xs) ≡ list_any (λ x. p (f x)) xs
any_mapped p f [] = refl
any_mapped p f (x ∷ xs) = ap (λ b. p (f x) || b) (any_mapped p f xs)

-- a filter keeps nothing where none passes
pub none_kept : {X : Type 0} (q : X → Bool) (xs : List X) → list_all (λ x. false) (filter q xs) ≡ not (list_any q xs)
none_kept q [] = refl
none_kept {X} q (x ∷ xs) = by (q x) (none_kept q xs)
  where
    by : (b : Bool) → list_all (λ y. false) (filter q xs) ≡ not (list_any q xs) → list_all (λ y. false) (cond b (x ∷ filter q xs) (filter q xs)) ≡ not (b || list_any q xs)
    by true behind = refl
    by false behind = behind
