-- What the words on pairs give of two lists with a pair between them, by where a key stands.
use Rattle.std.proofs.Common.{◌≡◌, refl, sym, ap, ◌∙◌, Bool, true, false, List, [], ◌∷◌, ◌++◌, reverse, subst, append_assoc, append-nil, Option, Some, None, cond, true≢false}
use Rattle.std.specs.Option.{option_or}
use Rattle.std.specs.List.{filter, find, AllByRecursion}
use Rattle.std.specs.declared.cmp.Ordering.{Ordering}
use Rattle.std.specs.declared.cmp.Ordering.TheVariants.{Less, Equal, Greater}
use Rattle.std.specs.Ordering.{is_lt, is_gt, is_eq, is_ne, ordering_reverse}
use Rattle.std.specs.Cmp.{IsTotalOrder}
use Rattle.std.proofs.lemmas.List.{reverse-append}
use Rattle.std.proofs.lemmas.List.Elements.{filter-append}
use Rattle.std.proofs.lemmas.List.Folds.{find-append}
use Rattle.shared_tree.specs.Pairs.{IsAscending, pairs_below, pairs_above, pair_at, pair_before, pair_after, pairs_with, pairs_without}

-- facts by recursion on a list
module _ {X : Type 0} where
  pub each_weaker : (P Q : X → Type 0) → ((x : X) → P x → Q x) → (xs : List X) → AllByRecursion P xs → AllByRecursion Q xs
  each_weaker P Q f [] h = tt
  each_weaker P Q f (x ∷ xs) h = (f x h.0, each_weaker P Q f xs h.1)

  pub each_append : (P : X → Type 0) (xs ys : List X) → AllByRecursion P xs → AllByRecursion P ys → AllByRecursion P (xs ++ ys)
  each_append P [] ys h k = k
  each_append P (x ∷ xs) ys h k = (h.0, each_append P xs ys h.1 k)

  pub each_front : (P : X → Type 0) (xs ys : List X) → AllByRecursion P (xs ++ ys) → AllByRecursion P xs
  each_front P [] ys h = tt
  each_front P (x ∷ xs) ys h = (h.0, each_front P xs ys h.1)

  pub each_behind : (P : X → Type 0) (xs ys : List X) → AllByRecursion P (xs ++ ys) → AllByRecursion P ys
  each_behind P [] ys h = h
  each_behind P (x ∷ xs) ys h = each_behind P xs ys h.1

  pub each_reverse : (P : X → Type 0) (xs : List X) → AllByRecursion P xs → AllByRecursion P (reverse xs)
  each_reverse P [] h = tt
  each_reverse P (x ∷ xs) h = subst (AllByRecursion P) (sym (reverse-append (x ∷ []) xs)) (each_append P (reverse xs) (x ∷ []) (each_reverse P xs h.1) (h.0, tt))

  pub each_filtered : (P : X → Type 0) (p : X → Bool) (xs : List X) → AllByRecursion P xs → AllByRecursion P (filter p xs)
  each_filtered P p [] h = tt
  each_filtered P p (x ∷ xs) h =
      elim (p x) as (λ b. AllByRecursion P (cond b (x ∷ filter p xs) (filter p xs))) [ true ↦ (h.0, each_filtered P p xs h.1) | false ↦ each_filtered P p xs h.1 ]

  pub each_passes : (p : X → Bool) (xs : List X) → AllByRecursion (λ x. p x ≡ true) (filter p xs)
  each_passes p [] = tt
  each_passes p (x ∷ xs) =
      elim (p x) as (λ b. p x ≡ b → AllByRecursion (λ y. p y ≡ true) (cond b (x ∷ filter p xs) (filter p xs))) [ true ↦ λ e. (e, each_passes p xs) | false ↦ λ e. each_passes p xs ] refl

  -- a test that answers alike along a list keeps all or none, and finds the first or nothing
  pub filter_all : (p : X → Bool) (xs : List X) → AllByRecursion (λ x. p x ≡ true) xs → filter p xs ≡ xs
  filter_all p [] h = refl
  filter_all p (x ∷ xs) h = rw h.0 (ap (λ l. x ∷ l) (filter_all p xs h.1))

  pub filter_none : (p : X → Bool) (xs : List X) → AllByRecursion (λ x. p x ≡ false) xs → filter p xs ≡ []
  filter_none p [] h = refl
  filter_none p (x ∷ xs) h = rw h.0 (filter_none p xs h.1)

  pub find_none : (p : X → Bool) (xs : List X) → AllByRecursion (λ x. p x ≡ false) xs → find p xs ≡ None
  find_none p [] h = refl
  find_none p (x ∷ xs) h = rw h.0 (find_none p xs h.1)

module _ {K V : Type 0} (cmp : K → K → Ordering) where
  -- what a list that ascends says of a pair in it
  pub record Around (left : List (K × V)) (pair : K × V) (right : List (K × V)) : Type 0 where
    pub left_ascends : IsAscending cmp left
    pub right_ascends : IsAscending cmp right
    pub below : AllByRecursion (λ other. cmp other.0 pair.0 ≡ Less) left
    pub above : AllByRecursion (λ other. cmp pair.0 other.0 ≡ Less) right

  pub around : (left : List (K × V)) (pair : K × V) (right : List (K × V)) → IsAscending cmp (left ++ pair ∷ right) → Around left pair right
  around [] pair right h = record { left_ascends = tt; right_ascends = h.1; below = tt; above = h.0 }
  around (x ∷ left) pair right h =
      let rest = around left pair right h.1 in
      let head = each_behind (λ (other : K × V). cmp x.0 other.0 ≡ Less) left (pair ∷ right) h.0 in
      record {
        left_ascends = (each_front (λ (other : K × V). cmp x.0 other.0 ≡ Less) left (pair ∷ right) h.0, rest.left_ascends);
        right_ascends = rest.right_ascends;
        below = (head.0, rest.below);
        above = rest.above;
      }

some_none : {X : Type 0} (x : X) → Some x ≡ None → ⊥
some_none x e = cc

or_none : {X : Type 0} (o : Option X) → option_or o None ≡ o
or_none None = refl
or_none (Some x) = refl

pub or_some : {X : Type 0} (o p : Option X) (x : X) → option_or (option_or o (Some x)) p ≡ option_or o (Some x)
or_some None p x = refl
or_some (Some y) p x = refl

-- where a key stands to all pairs of a list
abbrev pub IsBelow : {K V : Type 0} → (K → K → Ordering) → K → List (K × V) → Type 0
IsBelow cmp key xs = AllByRecursion (λ pair. cmp key pair.0 ≡ Less) xs

abbrev pub IsAbove : {K V : Type 0} → (K → K → Ordering) → K → List (K × V) → Type 0
IsAbove cmp key xs = AllByRecursion (λ pair. cmp key pair.0 ≡ Greater) xs

module _ {K V : Type 0} (cmp : K → K → Ordering) (key : K) where
  none_below : (xs : List (K × V)) → IsBelow cmp key xs → pairs_below cmp key xs ≡ []
  none_below xs h = filter_none (λ pair. is_gt (cmp key pair.0)) xs (each_weaker _ _ (λ pair e. ap is_gt e) xs h)

  pub all_above : (xs : List (K × V)) → IsBelow cmp key xs → pairs_above cmp key xs ≡ xs
  all_above xs h = filter_all (λ pair. is_lt (cmp key pair.0)) xs (each_weaker _ _ (λ pair e. ap is_lt e) xs h)

  all_below : (xs : List (K × V)) → IsAbove cmp key xs → pairs_below cmp key xs ≡ xs
  all_below xs h = filter_all (λ pair. is_gt (cmp key pair.0)) xs (each_weaker _ _ (λ pair e. ap is_gt e) xs h)

  pub none_above : (xs : List (K × V)) → IsAbove cmp key xs → pairs_above cmp key xs ≡ []
  none_above xs h = filter_none (λ pair. is_lt (cmp key pair.0)) xs (each_weaker _ _ (λ pair e. ap is_lt e) xs h)

  pub none_at_below : (xs : List (K × V)) → IsBelow cmp key xs → pair_at cmp key xs ≡ None
  none_at_below xs h = find_none (λ pair. is_eq (cmp key pair.0)) xs (each_weaker _ _ (λ pair e. ap is_eq e) xs h)

  pub none_at_above : (xs : List (K × V)) → IsAbove cmp key xs → pair_at cmp key xs ≡ None
  none_at_above xs h = find_none (λ pair. is_eq (cmp key pair.0)) xs (each_weaker _ _ (λ pair e. ap is_eq e) xs h)

  pub none_after : (xs : List (K × V)) → IsAbove cmp key xs → pair_after cmp key xs ≡ None
  none_after xs h = find_none (λ pair. is_lt (cmp key pair.0)) xs (each_weaker _ _ (λ pair e. ap is_lt e) xs h)

  pub none_before : (xs : List (K × V)) → IsBelow cmp key xs → pair_before cmp key xs ≡ None
  none_before xs h = find_none (λ pair. is_gt (cmp key pair.0)) (reverse xs) (each_reverse _ xs (each_weaker _ _ (λ pair e. ap is_gt e) xs h))

  kept_below : (xs : List (K × V)) → IsBelow cmp key xs → pairs_without cmp key xs ≡ xs
  kept_below xs h = filter_all (λ pair. is_ne (cmp key pair.0)) xs (each_weaker _ _ (λ pair e. ap is_ne e) xs h)

  kept_above : (xs : List (K × V)) → IsAbove cmp key xs → pairs_without cmp key xs ≡ xs
  kept_above xs h = filter_all (λ pair. is_ne (cmp key pair.0)) xs (each_weaker _ _ (λ pair e. ap is_ne e) xs h)

  module _ (left : List (K × V)) (pair : K × V) (right : List (K × V)) where
    -- what is asked and made, where the key is less than the pair's and than all behind
    pub record AtLess : Type 0 where
      pub at : pair_at cmp key (left ++ pair ∷ right) ≡ pair_at cmp key left
      pub after : pair_after cmp key (left ++ pair ∷ right) ≡ option_or (pair_after cmp key left) (Some pair)
      pub before : pair_before cmp key (left ++ pair ∷ right) ≡ pair_before cmp key left
      pub put : (value : V) → pairs_with cmp key value (left ++ pair ∷ right) ≡ pairs_with cmp key value left ++ pair ∷ right
      pub gone : pairs_without cmp key (left ++ pair ∷ right) ≡ pairs_without cmp key left ++ pair ∷ right

    pub at_less : cmp key pair.0 ≡ Less → IsBelow cmp key right → AtLess
    at_less e h = record {
      at = find-append (λ other. is_eq (cmp key other.0)) left (pair ∷ right) ∙ ap (option_or (pair_at cmp key left)) (none_at_below (pair ∷ right) (e, h)) ∙ or_none (pair_at cmp key left);
      after = find-append (λ other. is_lt (cmp key other.0)) left (pair ∷ right) ∙ ap (λ b. option_or (pair_after cmp key left) (cond b (Some pair) (pair_after cmp key right))) (ap is_lt e);
      before =
          ap (find (λ other. is_gt (cmp key other.0))) (reverse-append left (pair ∷ right)) ∙ find-append (λ other. is_gt (cmp key other.0)) (reverse (pair ∷ right)) (reverse left)
          ∙ ap (λ o. option_or o (pair_before cmp key left)) (none_before (pair ∷ right) (e, h));
      put = λ value.
          let below : pairs_below cmp key (left ++ pair ∷ right) ≡ pairs_below cmp key left =
          filter-append (λ other. is_gt (cmp key other.0)) left (pair ∷ right) ∙ ap (λ l. pairs_below cmp key left ++ l) (none_below (pair ∷ right) (e, h)) ∙ append-nil _ in
          let above : pairs_above cmp key (left ++ pair ∷ right) ≡ pairs_above cmp key left ++ pair ∷ right =
          filter-append (λ other. is_lt (cmp key other.0)) left (pair ∷ right) ∙ ap (λ l. pairs_above cmp key left ++ l) (all_above (pair ∷ right) (e, h)) in
          rw (below, above) (sym (append_assoc (pairs_below cmp key left) _ _));
      gone = filter-append (λ other. is_ne (cmp key other.0)) left (pair ∷ right) ∙ ap (λ l. pairs_without cmp key left ++ l) (kept_below (pair ∷ right) (e, h));
    }

    -- where the key is the pair's
    pub record AtEqual : Type 0 where
      pub at : pair_at cmp key (left ++ pair ∷ right) ≡ Some pair
      pub after : pair_after cmp key (left ++ pair ∷ right) ≡ pair_after cmp key right
      pub put : (value : V) → pairs_with cmp key value (left ++ pair ∷ right) ≡ left ++ (key, value) ∷ right
      pub gone : pairs_without cmp key (left ++ pair ∷ right) ≡ left ++ right

    pub at_equal : IsAbove cmp key left → cmp key pair.0 ≡ Equal → IsBelow cmp key right → AtEqual
    at_equal g e h = record {
      at = find-append (λ other. is_eq (cmp key other.0)) left (pair ∷ right) ∙ rw (none_at_above left g) (ap (λ b. cond b (Some pair) (pair_at cmp key right)) (ap is_eq e));
      after = find-append (λ other. is_lt (cmp key other.0)) left (pair ∷ right) ∙ rw (none_after left g) (ap (λ b. cond b (Some pair) (pair_after cmp key right)) (ap is_lt e));
      put = λ value.
          let below : pairs_below cmp key (left ++ pair ∷ right) ≡ left =
          filter-append (λ other. is_gt (cmp key other.0)) left (pair ∷ right) ∙ rw (all_below left g, e, none_below right h) (append-nil left) in
          let above : pairs_above cmp key (left ++ pair ∷ right) ≡ right =
          filter-append (λ other. is_lt (cmp key other.0)) left (pair ∷ right) ∙ rw (none_above left g, e, all_above right h) refl in
          rw (below, above) refl;
      gone = filter-append (λ other. is_ne (cmp key other.0)) left (pair ∷ right) ∙ rw (kept_above left g, e, kept_below right h) refl;
    }

    -- where the key is greater than the pair's and than all before
    pub record AtGreater : Type 0 where
      pub at : pair_at cmp key (left ++ pair ∷ right) ≡ pair_at cmp key right
      pub before : pair_before cmp key (left ++ pair ∷ right) ≡ option_or (pair_before cmp key right) (Some pair)
      pub after : pair_after cmp key (left ++ pair ∷ right) ≡ pair_after cmp key right
      pub put : (value : V) → pairs_with cmp key value (left ++ pair ∷ right) ≡ left ++ pair ∷ pairs_with cmp key value right
      pub gone : pairs_without cmp key (left ++ pair ∷ right) ≡ left ++ pair ∷ pairs_without cmp key right

    pub at_greater : IsAbove cmp key left → cmp key pair.0 ≡ Greater → AtGreater
    at_greater g e = record {
      at = find-append (λ other. is_eq (cmp key other.0)) left (pair ∷ right) ∙ rw (none_at_above left g) (ap (λ b. cond b (Some pair) (pair_at cmp key right)) (ap is_eq e));
      before =
          ap (find (λ other. is_gt (cmp key other.0))) (reverse-append left (pair ∷ right)) ∙ find-append (λ other. is_gt (cmp key other.0)) (reverse (pair ∷ right)) (reverse left)
          ∙ ap (λ o. option_or o (pair_before cmp key left))
          (ap (find (λ other. is_gt (cmp key other.0))) (reverse-append (pair ∷ []) right) ∙ find-append (λ other. is_gt (cmp key other.0)) (reverse right) (pair ∷ [])
          ∙ ap (λ b. option_or (pair_before cmp key right) (cond b (Some pair) None)) (ap is_gt e))
          ∙ or_some (pair_before cmp key right) (pair_before cmp key left) pair;
      after = find-append (λ other. is_lt (cmp key other.0)) left (pair ∷ right) ∙ rw (none_after left g) (ap (λ b. cond b (Some pair) (pair_after cmp key right)) (ap is_lt e));
      put = λ value.
          let below : pairs_below cmp key (left ++ pair ∷ right) ≡ left ++ pair ∷ pairs_below cmp key right =
          filter-append (λ other. is_gt (cmp key other.0)) left (pair ∷ right) ∙ rw (all_below left g, e) refl in
          let above : pairs_above cmp key (left ++ pair ∷ right) ≡ pairs_above cmp key right =
          filter-append (λ other. is_lt (cmp key other.0)) left (pair ∷ right) ∙ rw (none_above left g, e) refl in
          rw (below, above) (append_assoc left (pair ∷ pairs_below cmp key right) _);
      gone = filter-append (λ other. is_ne (cmp key other.0)) left (pair ∷ right) ∙ rw (kept_above left g, e) refl;
    }

-- the same of a list that ascends, by the pair's key alone
module _ {K V : Type 0} {cmp : K → K → Ordering} (o : IsTotalOrder cmp) (key : K) (left : List (K × V)) (pair : K × V) (right : List (K × V)) (ascends : IsAscending cmp (left ++ pair ∷ right)) where
  sides : Around cmp left pair right
  sides = around cmp left pair right ascends

  pub less_here : cmp key pair.0 ≡ Less → AtLess cmp key left pair right
  less_here e = at_less cmp key left pair right e (each_weaker _ _ (λ other h. o.trans key pair.0 other.0 e h) right sides.above)

  pub equal_here : cmp key pair.0 ≡ Equal → AtEqual cmp key left pair right
  equal_here e =
      at_equal cmp key left pair right
      (each_weaker _ _ (λ other h. o.congr key pair.0 other.0 e ∙ o.antisymm pair.0 other.0 ∙ ap ordering_reverse h) left sides.below)
      e
      (each_weaker _ _ (λ other h. o.congr key pair.0 other.0 e ∙ h) right sides.above)

  pub greater_here : cmp key pair.0 ≡ Greater → AtGreater cmp key left pair right
  greater_here e =
      at_greater cmp key left pair right
      (each_weaker _ _ (λ other h. o.antisymm key other.0 ∙ ap ordering_reverse (o.trans other.0 pair.0 key h (o.antisymm pair.0 key ∙ ap ordering_reverse e))) left sides.below)
      e

  pub left_ascends : IsAscending cmp left
  left_ascends = sides.left_ascends

  pub right_ascends : IsAscending cmp right
  right_ascends = sides.right_ascends

greater_is : (r : Ordering) → is_gt r ≡ true → r ≡ Greater
greater_is Less e = absurd (true≢false (sym e))
greater_is Equal e = absurd (true≢false (sym e))
greater_is Greater e = refl

less_is : (r : Ordering) → is_lt r ≡ true → r ≡ Less
less_is Less e = refl
less_is Equal e = absurd (true≢false (sym e))
less_is Greater e = absurd (true≢false (sym e))

other_is : (r : Ordering) → is_eq r ≡ false → is_ne r ≡ true
other_is Less e = refl
other_is Equal e = absurd (true≢false e)
other_is Greater e = refl

-- lists that ascend, made of others
module _ {K V : Type 0} (cmp : K → K → Ordering) where
  pub ascends_append : (xs ys : List (K × V)) → IsAscending cmp xs → IsAscending cmp ys → AllByRecursion (λ x. AllByRecursion (λ y. cmp x.0 y.0 ≡ Less) ys) xs → IsAscending cmp (xs ++ ys)
  ascends_append [] ys h k m = k
  ascends_append (x ∷ xs) ys h k m = (each_append (λ y. cmp x.0 y.0 ≡ Less) xs ys h.0 m.0, ascends_append xs ys h.1 k m.1)

  pub filter_ascends : (p : K × V → Bool) (xs : List (K × V)) → IsAscending cmp xs → IsAscending cmp (filter p xs)
  filter_ascends p [] h = tt
  filter_ascends p (x ∷ xs) h =
      elim (p x) as (λ b. IsAscending cmp (cond b (x ∷ filter p xs) (filter p xs))) [
        | true ↦ (each_filtered (λ y. cmp x.0 y.0 ≡ Less) p xs h.0, filter_ascends p xs h.1)
        | false ↦ filter_ascends p xs h.1
      ]

  -- a list with a pair in place ascends
  pub with_ascends : IsTotalOrder cmp → (key : K) (value : V) (xs : List (K × V)) → IsAscending cmp xs → IsAscending cmp (pairs_with cmp key value xs)
  with_ascends o key value xs h =
      let below = pairs_below cmp key xs in
      let above = pairs_above cmp key xs in
      let over : AllByRecursion (λ y. cmp key y.0 ≡ Less) above = each_weaker _ _ (λ y e. less_is _ e) above (each_passes (λ y. is_lt (cmp key y.0)) xs) in
      ascends_append below ((key, value) ∷ above)
      (filter_ascends (λ x. is_gt (cmp key x.0)) xs h)
      (over, filter_ascends (λ x. is_lt (cmp key x.0)) xs h)
      (each_weaker (λ x. is_gt (cmp key x.0) ≡ true) (λ x. AllByRecursion (λ y. cmp x.0 y.0 ≡ Less) ((key, value) ∷ above))
      (λ x e.
      let less : cmp x.0 key ≡ Less = o.antisymm x.0 key ∙ ap ordering_reverse (greater_is _ e) in
      (less, each_weaker _ _ (λ y f. o.trans x.0 key y.0 less f) above over))
      below (each_passes (λ x. is_gt (cmp key x.0)) xs))

  -- without a key that no pair has, a list stays as it is
  pub without_absent : (key : K) (xs : List (K × V)) → pair_at cmp key xs ≡ None → pairs_without cmp key xs ≡ xs
  without_absent key [] e = refl
  without_absent key (x ∷ xs) e =
      elim (is_eq (cmp key x.0)) as (λ b. is_eq (cmp key x.0) ≡ b → cond b (Some x) (pair_at cmp key xs) ≡ None → pairs_without cmp key (x ∷ xs) ≡ x ∷ xs) [
        | true ↦ λ t f. absurd (some_none x f)
        | false ↦ λ t f. rw (other_is _ t) (ap (λ l. x ∷ l) (without_absent key xs f))
      ] refl e

-- the pairs of greater keys, of a list that ascends, by the pair's key alone
module _ {K V : Type 0} {cmp : K → K → Ordering} (o : IsTotalOrder cmp) (key : K) (left : List (K × V)) (pair : K × V) (right : List (K × V)) (ascends : IsAscending cmp (left ++ pair ∷ right)) where
  parts : Around cmp left pair right
  parts = around cmp left pair right ascends

  pub above_less : is_lt (cmp key pair.0) ≡ true → pairs_above cmp key (left ++ pair ∷ right) ≡ pairs_above cmp key left ++ pair ∷ right
  above_less f =
      let e = less_is (cmp key pair.0) f in
      filter-append (λ other. is_lt (cmp key other.0)) left (pair ∷ right)
      ∙ ap (λ l. pairs_above cmp key left ++ l) (all_above cmp key (pair ∷ right) (e, each_weaker _ _ (λ other h. o.trans key pair.0 other.0 e h) right parts.above))

  passed_left : IsAbove cmp key left → is_lt (cmp key pair.0) ≡ false → pairs_above cmp key (left ++ pair ∷ right) ≡ pairs_above cmp key right
  passed_left g e = filter-append (λ other. is_lt (cmp key other.0)) left (pair ∷ right) ∙ rw (none_above cmp key left g, e) refl

  above_by : (r : Ordering) → cmp key pair.0 ≡ r → is_lt r ≡ false → pairs_above cmp key (left ++ pair ∷ right) ≡ pairs_above cmp key right
  above_by Less e f = absurd (true≢false f)
  above_by Equal e f =
      passed_left (each_weaker _ _ (λ other h. o.congr key pair.0 other.0 e ∙ o.antisymm pair.0 other.0 ∙ ap ordering_reverse h) left parts.below) (ap is_lt e)
  above_by Greater e f =
      passed_left
      (each_weaker _ _ (λ other h. o.antisymm key other.0 ∙ ap ordering_reverse (o.trans other.0 pair.0 key h (o.antisymm pair.0 key ∙ ap ordering_reverse e))) left parts.below)
      (ap is_lt e)

  pub above_other : is_lt (cmp key pair.0) ≡ false → pairs_above cmp key (left ++ pair ∷ right) ≡ pairs_above cmp key right
  above_other f = above_by (cmp key pair.0) refl f
