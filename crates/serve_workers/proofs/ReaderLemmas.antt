-- Readers that are given to threads.
use Rattle.std.proofs.Common.{◌≡◌, List, [], ◌∷◌, length, map, sym, ap, subst, ◌∙◌}
use Rattle.std.proofs.lemmas.List.{length-map}
use Rattle.worker_jobs.specs.GivenBack.{Each, none, one}

-- what is related by something of each is so when that is taken of each
each_from : {A B C : Type 0} (S : B → C → Type 0) (f : A → B) (xs : List A) (ys : List C) → Each (λ x y. S (f x) y) xs ys → Each S (map f xs) ys
each_from S f _ _ none = none
each_from S f _ _ (one first all) = one first (each_from S f _ _ all)

-- and the other way round
each_back : {A B C : Type 0} (S : B → C → Type 0) (f : A → B) (xs : List A) (ys : List C) → Each S (map f xs) ys → Each (λ x y. S (f x) y) xs ys
each_back S f [] _ none = none
each_back S f (x ∷ xs) _ (one first all) = one first (each_back S f xs _ all)

-- what is related by something of each is so of others that have the same
pub each_other : {A B C D : Type 0} (S : C → D → Type 0) (f : A → C) (h : B → C) (xs : List A) (zs : List B) (ys : List D) → map f xs ≡ map h zs → Each (λ x y. S (f x) y) xs ys → Each (λ z y. S (h z) y) zs ys
each_other S f h xs zs ys same all = each_back S h zs ys (subst (λ l. Each S l ys) same (each_from S f xs ys all))

-- lists of which each has the same as one of the other have one length
pub length_same : {A B C : Type 0} (f : A → C) (h : B → C) (xs : List A) (zs : List B) → map f xs ≡ map h zs → length xs ≡ length zs
length_same f h xs zs same = sym (length-map xs f) ∙ ap length same ∙ length-map zs h
