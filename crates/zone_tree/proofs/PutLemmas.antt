-- Lists with others in place of what stands at one place.
use Rattle.std.proofs.Common.{◌≡◌, refl, sym, ap, ◌∙◌, ℕ, ◌+◌, Bool, true, false, ◌&&◌, cond, List, [], ◌∷◌, ◌++◌, length, arith, append_assoc, append-nil, length-append, eqb-true}
use Rattle.std.specs.Prelude.{◌==◌, not}
use Rattle.std.specs.declared.cmp.Ordering.{Ordering}
use Rattle.std.specs.declared.cmp.Ordering.TheVariants.{Less, Equal, Greater}
use Rattle.std.specs.List.{filter, AllByRecursion}
use Rattle.std.specs.Ordering.{nat_cmp, is_lt, is_gt, is_eq, is_ne, ordering_then, ordering_reverse}
use Rattle.std.specs.Cmp.{IsTotalOrder, Equal-is, both_ways}
use Rattle.std.proofs.lemmas.Cmp.{tied_itself, nat_cmp_total}
use Rattle.std.proofs.lemmas.List.Elements.{filter-append}
use Rattle.shared_tree.proofs.PairLemmas.{each_passes}
use Rattle.dns_name.specs.Name.{is_same, canonical_cmp}
use Rattle.dns_name.specs.Order.{is_same_tied}
use Rattle.zone_tree.specs.Edit.{put_at}
use Rattle.zone_tree.proofs.Rising.{filter_alike, each_weaker, each_append, each_filter, Rises, Rises-append, Rises-filter}
use Rattle.zone_tree.proofs.ZoneLemmas.{eqb_from_tie}

-- tests that answer alike along a list keep the same of it
pub filter_same : {X : Type 0} (p q : X → Bool) (xs : List X) → AllByRecursion (λ x. p x ≡ q x) xs → filter p xs ≡ filter q xs
filter_same p q [] h = refl
filter_same p q (x ∷ xs) h = λ i. cond (h.0 i) (x ∷ filter_same p q xs h.1 i) (filter_same p q xs h.1 i)

pub put_same : {X : Type 0} (f g : X → Ordering) (others xs : List X) → AllByRecursion (λ x. f x ≡ g x) xs → put_at f others xs ≡ put_at g others xs
put_same f g others xs h =
    let low = filter_same (λ x. is_lt (f x)) (λ x. is_lt (g x)) xs (each_weaker (λ x. f x ≡ g x) (λ x. is_lt (f x) ≡ is_lt (g x)) (λ x e. ap is_lt e) xs h) in
    let high = filter_same (λ x. is_gt (f x)) (λ x. is_gt (g x)) xs (each_weaker (λ x. f x ≡ g x) (λ x. is_gt (f x) ≡ is_gt (g x)) (λ x e. ap is_gt e) xs h) in
    λ i. low i ++ others ++ high i

module _ {X : Type 0} (beside : X → Ordering) (others : List X) where
  -- a part that comes before the place stays, and so does one behind it
  pub put_front : (xs ys : List X) → AllByRecursion (λ x. beside x ≡ Less) xs → put_at beside others (xs ++ ys) ≡ xs ++ put_at beside others ys
  put_front [] ys h = refl
  put_front (x ∷ xs) ys h = rw h.0 (ap (λ l. x ∷ l) (put_front xs ys h.1))

  pub put_back : (xs ys : List X) → AllByRecursion (λ x. beside x ≡ Greater) ys → put_at beside others (xs ++ ys) ≡ put_at beside others xs ++ ys
  put_back xs ys h =
      let front = filter (λ x. is_lt (beside x)) xs in
      let back = filter (λ x. is_gt (beside x)) xs in
      let low : filter (λ x. is_lt (beside x)) (xs ++ ys) ≡ front =
      filter-append (λ x. is_lt (beside x)) xs ys ∙ ap (λ l. front ++ l) (filter_alike (λ x. is_lt (beside x)) false ys (each_weaker (λ x. beside x ≡ Greater) (λ x. is_lt (beside x) ≡ false) (λ x e. ap is_lt e) ys h)) ∙ append-nil front in
      let high : filter (λ x. is_gt (beside x)) (xs ++ ys) ≡ back ++ ys =
      filter-append (λ x. is_gt (beside x)) xs ys ∙ ap (λ l. back ++ l) (filter_alike (λ x. is_gt (beside x)) true ys (each_weaker (λ x. beside x ≡ Greater) (λ x. is_gt (beside x) ≡ true) (λ x e. ap is_gt e) ys h)) in
      (λ i. low i ++ others ++ high i) ∙ sym (append_assoc (front ++ others) back ys)

  three : (xs : List X) → length (filter (λ x. is_lt (beside x)) xs) + length (filter (λ x. is_eq (beside x)) xs) + length (filter (λ x. is_gt (beside x)) xs) ≡ length xs
  three [] = refl
  three (x ∷ xs) = by (beside x) (three xs)
    where
      by : (o : Ordering) → length (filter (λ y. is_lt (beside y)) xs) + length (filter (λ y. is_eq (beside y)) xs) + length (filter (λ y. is_gt (beside y)) xs) ≡ length xs
          → length (cond (is_lt o) (x ∷ filter (λ y. is_lt (beside y)) xs) (filter (λ y. is_lt (beside y)) xs)) + length (cond (is_eq o) (x ∷ filter (λ y. is_eq (beside y)) xs) (filter (λ y. is_eq (beside y)) xs)) + length (cond (is_gt o) (x ∷ filter (λ y. is_gt (beside y)) xs) (filter (λ y. is_gt (beside y)) xs)) ≡ length (x ∷ xs)
      by Less e = omega arith
      by Equal e = omega arith
      by Greater e = omega arith

  -- so many are there then
  pub put_length : (xs : List X) → length (put_at beside others xs) + length (filter (λ x. is_eq (beside x)) xs) ≡ length xs + length others
  put_length xs =
      let front = filter (λ x. is_lt (beside x)) xs in
      let back = filter (λ x. is_gt (beside x)) xs in
      omega (arith, three xs, length-append (front ++ others) back, length-append front others)

  -- what holds of each and of each of the others
  pub put_each : (P : X → Type 0) (xs : List X) → AllByRecursion P xs → AllByRecursion P others → AllByRecursion P (put_at beside others xs)
  put_each P xs h k =
      each_append P (filter (λ x. is_lt (beside x)) xs ++ others) (filter (λ x. is_gt (beside x)) xs)
      (each_append P (filter (λ x. is_lt (beside x)) xs) others (each_filter (λ x. is_lt (beside x)) P xs h) k)
      (each_filter (λ x. is_gt (beside x)) P xs h)

less_is : (o : Ordering) → is_lt o ≡ true → o ≡ Less
less_is Less e = refl
less_is Equal e = cc
less_is Greater e = cc

greater_is : (o : Ordering) → is_gt o ≡ true → o ≡ Greater
greater_is Less e = cc
greater_is Equal e = cc
greater_is Greater e = refl

-- of a list in ascending order, with others in place of what ties with a key
module _ {X : Type 0} {cmp : X → X → Ordering} (o : IsTotalOrder cmp) (key : X) where
  abbrev Before : X → X → Type 0
  Before x y = is_lt (cmp x y) ≡ true

  behind_key : (x y : X) → cmp x key ≡ Greater → Before x y → cmp y key ≡ Greater
  behind_key x y e h =
      let less : cmp key x ≡ Less = o.antisymm key x ∙ ap ordering_reverse e in
      o.antisymm y key ∙ ap ordering_reverse (o.trans key x y less (less_is (cmp x y) h))

  -- what doesn't tie comes before the key or behind it
  sides : (xs : List X) → Rises Before xs → filter (λ x. is_ne (cmp x key)) xs ≡ filter (λ x. is_lt (cmp x key)) xs ++ filter (λ x. is_gt (cmp x key)) xs
  sides [] h = refl
  sides (x ∷ xs) h = by (cmp x key) refl (sides xs h.1)
    where
      by : (p : Ordering) → cmp x key ≡ p → filter (λ y. is_ne (cmp y key)) xs ≡ filter (λ y. is_lt (cmp y key)) xs ++ filter (λ y. is_gt (cmp y key)) xs
          → cond (is_ne p) (x ∷ filter (λ y. is_ne (cmp y key)) xs) (filter (λ y. is_ne (cmp y key)) xs) ≡ cond (is_lt p) (x ∷ filter (λ y. is_lt (cmp y key)) xs) (filter (λ y. is_lt (cmp y key)) xs) ++ cond (is_gt p) (x ∷ filter (λ y. is_gt (cmp y key)) xs) (filter (λ y. is_gt (cmp y key)) xs)
      by Less e k = ap (λ l. x ∷ l) k
      by Equal e k = k
      by Greater e k =
          let behind = each_weaker (Before x) (λ y. cmp y key ≡ Greater) (λ y. behind_key x y e) xs h.0 in
          let none = filter_alike (λ y. is_lt (cmp y key)) false xs (each_weaker (λ y. cmp y key ≡ Greater) (λ y. is_lt (cmp y key) ≡ false) (λ y f. ap is_lt f) xs behind) in
          let all = filter_alike (λ y. is_gt (cmp y key)) true xs (each_weaker (λ y. cmp y key ≡ Greater) (λ y. is_gt (cmp y key) ≡ true) (λ y f. ap is_gt f) xs behind) in
          let kept = filter_alike (λ y. is_ne (cmp y key)) true xs (each_weaker (λ y. cmp y key ≡ Greater) (λ y. is_ne (cmp y key) ≡ true) (λ y f. ap is_ne f) xs behind) in
          rw (none, all, kept) refl

  -- so without any others it stays
  pub put_none : (xs : List X) → Rises Before xs → filter (λ x. is_ne (cmp x key)) xs ≡ put_at (λ x. cmp x key) [] xs
  put_none xs h = sides xs h ∙ ap (λ l. l ++ filter (λ x. is_gt (cmp x key)) xs) (sym (append-nil (filter (λ x. is_lt (cmp x key)) xs)))

  -- and others that tie with the key come in order
  pub put_rises : (others xs : List X) → Rises Before xs → Rises Before others → AllByRecursion (λ x. cmp x key ≡ Equal) others → Rises Before (put_at (λ x. cmp x key) others xs)
  put_rises others xs h k ties =
      let front = filter (λ x. is_lt (cmp x key)) xs in
      let back = filter (λ x. is_gt (cmp x key)) xs in
      let over : AllByRecursion (λ x. is_gt (cmp x key) ≡ true) back = each_passes (λ x. is_gt (cmp x key)) xs in
      let under : AllByRecursion (λ x. is_lt (cmp x key) ≡ true) front = each_passes (λ x. is_lt (cmp x key)) xs in
      Rises-append Before (front ++ others) back
      (Rises-append Before front others (Rises-filter (λ x. is_lt (cmp x key)) Before xs h) k
      (each_weaker (λ x. is_lt (cmp x key) ≡ true) (λ x. AllByRecursion (Before x) others)
      (λ x l. each_weaker (λ y. cmp y key ≡ Equal) (Before x) (λ y e. ap is_lt (o.antisymm x y ∙ ap ordering_reverse (o.congr y key x e ∙ o.antisymm key x ∙ ap ordering_reverse (less_is (cmp x key) l)))) others ties)
      front under))
      (Rises-filter (λ x. is_gt (cmp x key)) Before xs h)
      (each_append (λ x. AllByRecursion (Before x) back) front others
      (each_weaker (λ x. is_lt (cmp x key) ≡ true) (λ x. AllByRecursion (Before x) back)
      (λ x l. each_weaker (λ y. is_gt (cmp y key) ≡ true) (Before x) (λ y g. ap is_lt (o.trans x key y (less_is (cmp x key) l) (o.antisymm key y ∙ ap ordering_reverse (greater_is (cmp y key) g)))) back over)
      front under)
      (each_weaker (λ x. cmp x key ≡ Equal) (λ x. AllByRecursion (Before x) back)
      (λ x e. each_weaker (λ y. is_gt (cmp y key) ≡ true) (Before x) (λ y g. ap is_lt (o.congr x key y e ∙ o.antisymm key y ∙ ap ordering_reverse (greater_is (cmp y key) g))) back over)
      others ties))

-- and others that tie with the place alone stand there
pub put_tied : {X : Type 0} (beside : X → Ordering) (others xs : List X) → AllByRecursion (λ x. beside x ≡ Equal) xs → put_at beside others xs ≡ others
put_tied beside others xs h =
    let low = filter_alike (λ x. is_lt (beside x)) false xs (each_weaker (λ x. beside x ≡ Equal) (λ x. is_lt (beside x) ≡ false) (λ x e. ap is_lt e) xs h) in
    let high = filter_alike (λ x. is_gt (beside x)) false xs (each_weaker (λ x. beside x ≡ Equal) (λ x. is_gt (beside x) ≡ false) (λ x e. ap is_gt e) xs h) in
    (λ i. low i ++ others ++ high i) ∙ append-nil others

-- where the place tells of two what their order is
module _ {X : Type 0} (Before : X → X → Type 0) (beside : X → Ordering)
    (low : (x y : X) → beside x ≡ Less → beside y ≡ Equal → Before x y) (over : (x y : X) → beside x ≡ Less → beside y ≡ Greater → Before x y) (high : (x y : X) → beside x ≡ Equal → beside y ≡ Greater → Before x y) where
  pub put_between : (others xs : List X) → Rises Before xs → Rises Before others → AllByRecursion (λ x. beside x ≡ Equal) others → Rises Before (put_at beside others xs)
  put_between others xs h k ties =
      let front = filter (λ x. is_lt (beside x)) xs in
      let back = filter (λ x. is_gt (beside x)) xs in
      let under : AllByRecursion (λ x. beside x ≡ Less) front = each_weaker (λ x. is_lt (beside x) ≡ true) (λ x. beside x ≡ Less) (λ x l. less_is (beside x) l) front (each_passes (λ x. is_lt (beside x)) xs) in
      let above : AllByRecursion (λ x. beside x ≡ Greater) back = each_weaker (λ x. is_gt (beside x) ≡ true) (λ x. beside x ≡ Greater) (λ x g. greater_is (beside x) g) back (each_passes (λ x. is_gt (beside x)) xs) in
      Rises-append Before (front ++ others) back
      (Rises-append Before front others (Rises-filter (λ x. is_lt (beside x)) Before xs h) k
      (each_weaker (λ x. beside x ≡ Less) (λ x. AllByRecursion (Before x) others) (λ x l. each_weaker (λ y. beside y ≡ Equal) (Before x) (λ y e. low x y l e) others ties) front under))
      (Rises-filter (λ x. is_gt (beside x)) Before xs h)
      (each_append (λ x. AllByRecursion (Before x) back) front others
      (each_weaker (λ x. beside x ≡ Less) (λ x. AllByRecursion (Before x) back) (λ x l. each_weaker (λ y. beside y ≡ Greater) (Before x) (λ y g. over x y l g) back above) front under)
      (each_weaker (λ x. beside x ≡ Equal) (λ x. AllByRecursion (Before x) back) (λ x e. each_weaker (λ y. beside y ≡ Greater) (Before x) (λ y g. high x y e g) back above) others ties))

-- an owner and a type tie exactly with the same ones
eq_then : (a b : Ordering) → is_eq (ordering_then a b) ≡ is_eq a && is_eq b
eq_then Less b = refl
eq_then Equal b = refl
eq_then Greater b = refl

types_tie : (t u : ℕ) → is_eq (nat_cmp t u) ≡ (t == u)
types_tie t u =
    both_ways (is_eq (nat_cmp t u)) (t == u)
    (λ e. eqb_from_tie t u ((Equal-is (nat_cmp t u)).0 e))
    (λ e. ap (λ n. is_eq (nat_cmp t n)) (sym (eqb-true t u e)) ∙ ap is_eq (tied_itself nat_cmp_total t))

pub same_place : (owner name : List (List ℕ)) (t u : ℕ) → is_eq (ordering_then (canonical_cmp owner name) (nat_cmp t u)) ≡ is_same owner name && t == u
same_place owner name t u = eq_then (canonical_cmp owner name) (nat_cmp t u) ∙ (λ i. sym (is_same_tied owner name) i && types_tie t u i)

pub other_place : (o : Ordering) → is_ne o ≡ not (is_eq o)
other_place Less = refl
other_place Equal = refl
other_place Greater = refl
