-- Lists whose elements belong together one by one.
use Rattle.std.proofs.Common.{◌≡◌, refl, ℕ, length, arith, append-nil, Bool, List, [], ◌∷◌, ◌++◌, Result, Ok, Err, MatchResult, All, map, sym, ap, subst, ◌∙◌}
use Rattle.std.proofs.lemmas.List.Elements.{All-nil, All-cons, All-head, All-tail, All-map}
use Rattle.std.proofs.lemmas.Simd.{map-map}
use Rattle.worker_jobs.specs.GivenBack.{Each, none, one, IsGivenBack, IsReturned}

-- one more at the end of each
pub each_push : {A B : Type 0} (R : A → B → Type 0) (xs : List A) (ys : List B) (x : A) (y : B) → Each R xs ys → R x y → Each R (xs ++ x ∷ []) (ys ++ y ∷ [])
each_push R _ _ x y none last = one last none
each_push R _ _ x y (one first all) last = one first (each_push R _ _ x y all last)

-- what belongs together through a third
pub each_through : {A B C : Type 0} (R : A → B → Type 0) (S : B → C → Type 0) (T : A → C → Type 0) → ((x : A) (y : B) (z : C) → R x y → S y z → T x z)
    → (xs : List A) (ys : List B) (zs : List C) → Each R xs ys → Each S ys zs → Each T xs zs
each_through R S T joins _ _ _ none none = none
each_through R S T joins _ _ _ (one first all) (one then more) = one (joins _ _ _ first then) (each_through R S T joins _ _ _ all more)

-- what is alike of each is alike of all
pub each_alike : {A B C : Type 0} (R : A → B → Type 0) (f : A → C) (g : B → C) → ((x : A) (y : B) → R x y → g y ≡ f x) → (xs : List A) (ys : List B) → Each R xs ys → map g ys ≡ map f xs
each_alike R f g alike _ _ none = refl
each_alike R f g alike _ _ (one {x = x} {xs = xs} {y = y} {ys = ys} first all) =
    ap (λ c. c ∷ map g ys) (alike x y first) ∙ ap (λ l. f x ∷ l) (each_alike R f g alike xs ys all)

-- what is the same of each is the same of all
pub each_same : {A : Type 0} (R : A → A → Type 0) → ((x y : A) → R x y → y ≡ x) → (xs ys : List A) → Each R xs ys → ys ≡ xs
each_same R same _ _ none = refl
each_same R same _ _ (one {x = x} {xs = xs} {y = y} {ys = ys} first all) =
    ap (λ c. c ∷ ys) (same x y first) ∙ ap (λ l. x ∷ l) (each_same R same xs ys all)

-- what holds of each second one
pub each_second : {A B : Type 0} (R : A → B → Type 0) (P : B → Type 0) → ((x : A) (y : B) → R x y → P y) → (xs : List A) (ys : List B) → Each R xs ys → All P ys
each_second R P holds _ _ none = All-nil P
each_second R P holds _ _ (one {x = x} {xs = xs} {y = y} {ys = ys} first all) = All-cons P y ys (holds x y first) (each_second R P holds xs ys all)

-- a work that is begun, and what comes back of it
pub ended : {H B W T : Type 0} (number : W → ℕ) (seen : W → List T) (IsDone : W → Type 0) (lock : ℕ) (lock_of : H → ℕ) (given_of : H → W) (told_of : B → ℕ) (may_of : B → Bool) (work_of : B → W)
    → (given : W) (begun : Result H B) (back : B)
    → MatchResult begun (λ h. (lock_of h ≡ lock) × (given_of h ≡ given)) (λ b. IsReturned number seen IsDone lock given (told_of b) (may_of b) (work_of b))
    → MatchResult begun (λ h. IsReturned number seen IsDone (lock_of h) (given_of h) (told_of back) (may_of back) (work_of back)) (λ b. back ≡ b)
    → IsReturned number seen IsDone lock given (told_of back) (may_of back) (work_of back)
ended number seen IsDone lock lock_of given_of told_of may_of work_of given (Ok h) back first then =
    let own = subst (λ g. IsGivenBack number seen IsDone g (may_of back) (work_of back)) first.1 then.1 in
    (then.0 ∙ first.0, own)
ended number seen IsDone lock lock_of given_of told_of may_of work_of given (Err b) back first then =
    subst (λ c. IsReturned number seen IsDone lock given (told_of c) (may_of c) (work_of c)) (sym then) first

-- what comes back as another work does that is the same, where both were told the same
pub given_along : {W T : Type 0} (number : W → ℕ) (seen : W → List T) (IsDone : W → Type 0) (given : W) (own reported : Bool) (back work : W) → own ≡ reported → work ≡ back → IsGivenBack number seen IsDone given own back → IsGivenBack number seen IsDone given reported work
given_along number seen IsDone given own reported back work same is r =
    let with_told = subst (λ (b : Bool). IsGivenBack number seen IsDone given b back) same r in
    subst (λ w. IsGivenBack number seen IsDone given reported w) (sym is) with_told

-- what is related one by one is so by a wider relation
pub each_wider : {A B : Type 0} (R S : A → B → Type 0) → ((x : A) (y : B) → R x y → S x y) → (xs : List A) (ys : List B) → Each R xs ys → Each S xs ys
each_wider R S wider _ _ none = none
each_wider R S wider _ _ (one first all) = one (wider _ _ first) (each_wider R S wider _ _ all)

-- what is itself is related to itself
pub each_itself : {A : Type 0} (R : A → A → Type 0) → ((x : A) → R x x) → (xs : List A) → Each R xs xs
each_itself R itself [] = none
each_itself R itself (x ∷ xs) = one (itself x) (each_itself R itself xs)

-- what holds of each holds of the last
pub all_last : {A : Type 0} (P : A → Type 0) (xs : List A) (x : A) → All P (xs ++ x ∷ []) → P x
all_last P [] x all = All-head P x [] all
all_last P (y ∷ ys) x all = all_last P ys x (All-tail P y (ys ++ x ∷ []) all)

-- what was taken from the front is all, where nothing is left
pub all_taken : {A : Type 0} (front rest all : List A) → front ++ rest ≡ all → length rest ≡ 0 → front ≡ all
all_taken front [] all whole empty = sym (append-nil front) ∙ whole
all_taken front (x ∷ rest) all whole empty = absurd (omega arith)

-- lists that belong together, and one more name for the first
pub each_along : {A B : Type 0} (R : A → B → Type 0) (xs zs : List A) (ys : List B) → xs ≡ zs → Each R xs ys → Each R zs ys
each_along R xs zs ys same all = subst (λ l. Each R l ys) same all

-- what is put in and taken out again keeps its numbers, where those of what it is put in stay
pub numbers_along : {P W : Type 0} (number : P → ℕ) (pair_of : W → P) (pairs back : List P) (tasks done : List W)
    → back ≡ map pair_of done → map (λ w. number (pair_of w)) done ≡ map (λ w. number (pair_of w)) tasks → map pair_of tasks ≡ pairs → map number back ≡ map number pairs
numbers_along number pair_of pairs back tasks done out same in' =
    ap (map number) out ∙ map-map number pair_of done ∙ same ∙ sym (map-map number pair_of tasks) ∙ ap (map number) in'

-- what is related by something of each is so when that is taken of each
pub each_map : {A B : Type 0} (S : B → B → Type 0) (f : A → B) (xs ys : List A) → Each (λ x y. S (f x) (f y)) xs ys → Each S (map f xs) (map f ys)
each_map S f _ _ none = none
each_map S f _ _ (one first all) = one first (each_map S f _ _ all)

-- what is put in and taken out again stays related, where what it is put in does
pub each_put : {P W : Type 0} (S : P → P → Type 0) (pair_of : W → P) (pairs back : List P) (tasks done : List W) → back ≡ map pair_of done → Each (λ given work. S (pair_of given) (pair_of work)) tasks done → map pair_of tasks ≡ pairs → Each S pairs back
each_put S pair_of pairs back tasks done out all in' = subst (λ l. Each S pairs l) (sym out) (subst (λ l. Each S l (map pair_of done)) in' (each_map S pair_of tasks done all))

-- what holds of each that is put in holds of each that is taken out
pub all_put : {P W : Type 0} (Q : P → Type 0) (pair_of : W → P) (back : List P) (done : List W) → back ≡ map pair_of done → All (λ w. Q (pair_of w)) done → All Q back
all_put Q pair_of back done out all = subst (All Q) (sym out) (All-map Q pair_of done all)
