-- What a loop over a run has made, and what a place in pairs says of a key.
use Rattle.std.proofs.Common.{◌≡◌, refl, sym, ap, ◌∙◌, subst, ℕ, zero, suc, ◌+◌, ◌<◌, ◌≤◌, Bool, true, false, List, [], ◌∷◌, ◌++◌, length, get_or, take, drop, reverse, cond, Option, None, Some, add-one, append-nil, arith, length-append}
use Rattle.std.specs.Option.{option_or, option_copied}
use Rattle.std.specs.Prelude.{IfSome}
use Rattle.std.specs.Borrow.{Bor}
use Rattle.std.specs.List.{filter, find, slice_get, AllByRecursion}
use Rattle.std.specs.declared.cmp.Ordering.{Ordering}
use Rattle.std.specs.declared.cmp.Ordering.TheVariants.{Less, Equal, Greater}
use Rattle.std.specs.Ordering.{is_lt, is_gt, is_eq, ordering_reverse}
use Rattle.std.specs.Cmp.{IsTotalOrder}
use Rattle.std.proofs.Math.Seq.{take-suc, drop-cons}
use Rattle.std.proofs.lemmas.List.{take-append-drop, reverse-append}
use Rattle.std.proofs.lemmas.List.Elements.{filter-append}
use Rattle.std.proofs.lemmas.List.Folds.{find-append}
use Rattle.std.proofs.lemmas.Option.{slice_get-get_or}
use Rattle.shared_tree.specs.declared.node.Entry.{Entry}
use Rattle.shared_tree.specs.Links.{run_pairs, IsFronted, AreFronted, IsRunFronted, IsParting}
use Rattle.shared_tree.specs.Pairs.{IsAscending, IsAt, IsBetween, pairs_below, pairs_above, pairs_with, pair_at, pair_before, pair_after, first_pair, last_pair}
use Rattle.shared_tree.proofs.LinkLemmas.{run_append, run_length}
use Rattle.shared_tree.proofs.PairLemmas.{IsBelow, IsAbove, around, each_weaker, each_append, each_reverse, equal_here, above_other, all_above, none_above, none_at_above, none_at_below, none_after, none_before}

module _ {X : Type 0} where
  pub filter_kept : (p : X → Bool) (xs : List X) (x : X) → p x ≡ true → filter p (xs ++ x ∷ []) ≡ filter p xs ++ x ∷ []
  filter_kept p xs x e = filter-append p xs (x ∷ []) ∙ ap (λ b. filter p xs ++ cond b (x ∷ []) []) e

  pub filter_passed : (p : X → Bool) (xs : List X) (x : X) → p x ≡ false → filter p (xs ++ x ∷ []) ≡ filter p xs
  filter_passed p xs x e = filter-append p xs (x ∷ []) ∙ ap (λ b. filter p xs ++ cond b (x ∷ []) []) e ∙ append-nil (filter p xs)

  pub each_at : (P : X → Type 0) (xs : List X) (i : ℕ) (d : X) → i < length xs → AllByRecursion P xs → P (get_or xs i d)
  each_at P [] i d h all = absurd (omega arith)
  each_at P (x ∷ xs) zero d h all = all.0
  each_at P (x ∷ xs) (suc i) d h all = each_at P xs i d (omega arith) all.1

module _ {K V : Type 0} where
  -- the pairs of one more entry
  pub pairs_taken : (run : List (Entry K V)) (i : ℕ) (entry : Entry K V) → i < length run → entry ≡ get_or run i entry → run_pairs (take (i + 1) run) ≡ run_pairs (take i run) ++ entry.pair.value ∷ []
  pairs_taken run i entry h is =
      rw add-one
      (ap run_pairs (take-suc run i entry h) ∙ run_append (take i run) (get_or run i entry ∷ [])
      ∙ ap (λ (e : Entry K V). run_pairs (take i run) ++ e.pair.value ∷ []) (sym is))

  pub fronted_at : (front : K → ℕ) (run : List (Entry K V)) (i : ℕ) (entry : Entry K V) → i < length run → entry ≡ get_or run i entry → AreFronted front run → IsFronted front entry
  fronted_at front run i entry h is all = subst (IsFronted front) (sym is) (each_at (IsFronted front) run i entry h all)

  -- the pair of an entry stands where that one does
  pub run_at : (run : List (Entry K V)) (i : ℕ) (entry : Entry K V) (d : K × V) → i < length run → get_or (run_pairs run) i d ≡ (get_or run i entry).pair.value
  run_at [] i entry d h = absurd (omega arith)
  run_at (e ∷ rest) zero entry d h = refl
  run_at (e ∷ rest) (suc i) entry d h = run_at rest i entry d (omega arith)

  pub run_drop : (run : List (Entry K V)) (i : ℕ) → run_pairs (drop i run) ≡ drop i (run_pairs run)
  run_drop [] zero = refl
  run_drop [] (suc i) = refl
  run_drop (e ∷ rest) zero = refl
  run_drop (e ∷ rest) (suc i) = run_drop rest i

  pub run_halves : (run : List (Entry K V)) (i : ℕ) → run_pairs (take i run) ++ run_pairs (drop i run) ≡ run_pairs run
  run_halves run i = sym (run_append (take i run) (drop i run)) ∙ ap run_pairs (take-append-drop i run)

-- pairs with one in place are at most one more
module _ {K V : Type 0} (cmp : K → K → Ordering) (key : K) where
  parted_length : (x : K × V) (xs : List (K × V)) (r : Ordering) → length (pairs_below cmp key xs) + length (pairs_above cmp key xs) ≤ length xs →
      length (cond (is_gt r) (x ∷ pairs_below cmp key xs) (pairs_below cmp key xs)) + length (cond (is_lt r) (x ∷ pairs_above cmp key xs) (pairs_above cmp key xs)) ≤ suc (length xs)
  parted_length x xs Less h = omega arith
  parted_length x xs Equal h = omega arith
  parted_length x xs Greater h = omega arith

  sides_length : (xs : List (K × V)) → length (pairs_below cmp key xs) + length (pairs_above cmp key xs) ≤ length xs
  sides_length [] = omega arith
  sides_length (x ∷ xs) = parted_length x xs (cmp key x.0) (sides_length xs)

  pub with_length : (value : V) (xs : List (K × V)) → length (pairs_with cmp key value xs) ≤ length xs + 1
  with_length value xs = omega (arith, length-append (pairs_below cmp key xs) ((key, value) ∷ pairs_above cmp key xs), sides_length xs)

  pub with_some : (value : V) (xs : List (K × V)) → 0 < length (pairs_with cmp key value xs)
  with_some value xs = omega (arith, length-append (pairs_below cmp key xs) ((key, value) ∷ pairs_above cmp key xs))

-- where a place stands to a key
module _ {K V : Type 0} {cmp : K → K → Ordering} (o : IsTotalOrder cmp) (key : K) (xs : List (K × V)) (i : ℕ) (d : K × V) (h : i < length xs) where
  parts_at : take i xs ++ get_or xs i d ∷ drop (suc i) xs ≡ xs
  parts_at = ap (λ l. take i xs ++ l) (sym (drop-cons xs i d h)) ∙ take-append-drop i xs

  pub lesser_to : IsAscending cmp xs → cmp key (get_or xs i d).0 ≡ Greater → IsAbove cmp key (take (i + 1) xs)
  lesser_to asc e =
      let a = around cmp (take i xs) (get_or xs i d) (drop (suc i) xs) (subst (IsAscending cmp) (sym parts_at) asc) in
      let below : IsAbove cmp key (take i xs) =
      each_weaker _ _ (λ other f. o.antisymm key other.0 ∙ ap ordering_reverse (o.trans other.0 (get_or xs i d).0 key f (o.antisymm (get_or xs i d).0 key ∙ ap ordering_reverse e))) (take i xs) a.below in
      rw (add-one, take-suc xs i d h) (each_append _ (take i xs) (get_or xs i d ∷ []) below (e, tt))

  pub greater_from : IsAscending cmp xs → cmp key (get_or xs i d).0 ≡ Less → IsBelow cmp key (drop i xs)
  greater_from asc e =
      let a = around cmp (take i xs) (get_or xs i d) (drop (suc i) xs) (subst (IsAscending cmp) (sym parts_at) asc) in
      rw (drop-cons xs i d h) (e, each_weaker _ _ (λ other f. o.trans key (get_or xs i d).0 other.0 e f) (drop (suc i) xs) a.above)

  -- the key's pair stands there
  pub found_at : IsAscending cmp xs → cmp key (get_or xs i d).0 ≡ Equal → pair_at cmp key xs ≡ slice_get xs i
  found_at asc e =
      let whole = subst (IsAscending cmp) (sym parts_at) asc in
      ap (pair_at cmp key) (sym parts_at) ∙ (equal_here o key (take i xs) (get_or xs i d) (drop (suc i) xs) whole e).at ∙ sym (slice_get-get_or xs i d h)

  pub found_above : IsAscending cmp xs → cmp key (get_or xs i d).0 ≡ Equal → pairs_above cmp key xs ≡ drop (i + 1) xs
  found_above asc e =
      let whole = subst (IsAscending cmp) (sym parts_at) asc in
      let a = around cmp (take i xs) (get_or xs i d) (drop (suc i) xs) whole in
      let above : IsBelow cmp key (drop (suc i) xs) = each_weaker _ _ (λ other f. o.congr key (get_or xs i d).0 other.0 e ∙ f) (drop (suc i) xs) a.above in
      rw add-one
      (ap (pairs_above cmp key) (sym parts_at) ∙ above_other o key (take i xs) (get_or xs i d) (drop (suc i) xs) whole (ap is_lt e)
      ∙ all_above cmp key (drop (suc i) xs) above)

-- what a test that all pass finds is the first
found_first : {K V : Type 0} (p : K × V → Bool) (xs : List (K × V)) → AllByRecursion (λ x. p x ≡ true) xs → find p xs ≡ first_pair xs
found_first p [] h = refl
found_first p (x ∷ xs) h = ap (λ b. cond b (Some x) (find p xs)) h.0

first_dropped : {K V : Type 0} (xs : List (K × V)) (i : ℕ) → first_pair (drop i xs) ≡ slice_get xs i
first_dropped [] zero = refl
first_dropped [] (suc i) = refl
first_dropped (x ∷ xs) zero = refl
first_dropped (x ∷ xs) (suc i) = first_dropped xs i

last_taken : {K V : Type 0} (xs : List (K × V)) (i : ℕ) (d : K × V) → i < length xs → last_pair (take (suc i) xs) ≡ slice_get xs i
last_taken xs i d h =
    ap last_pair (take-suc xs i d h) ∙ ap first_pair (reverse-append (take i xs) (get_or xs i d ∷ [])) ∙ sym (slice_get-get_or xs i d h)

pub last_at : {K V : Type 0} (xs : List (K × V)) (i : ℕ) → i < length xs → last_pair (take (suc i) xs) ≡ slice_get xs i
last_at [] i h = absurd (omega arith)
last_at (x ∷ xs) i h = last_taken (x ∷ xs) i x h

-- a key that has no pair, at its place
module _ {K V : Type 0} (cmp : K → K → Ordering) (key : K) (xs : List (K × V)) (i : ℕ) (between : IsBetween cmp key xs i) where
  pub none_between : pair_at cmp key xs ≡ None
  none_between =
      ap (pair_at cmp key) (sym (take-append-drop i xs)) ∙ find-append (λ x. is_eq (cmp key x.0)) (take i xs) (drop i xs)
      ∙ ap (λ f. option_or f (pair_at cmp key (drop i xs))) (none_at_above cmp key (take i xs) between.0)
      ∙ none_at_below cmp key (drop i xs) between.1

  pub after_between : pair_after cmp key xs ≡ slice_get xs i
  after_between =
      ap (pair_after cmp key) (sym (take-append-drop i xs)) ∙ find-append (λ x. is_lt (cmp key x.0)) (take i xs) (drop i xs)
      ∙ ap (λ f. option_or f (pair_after cmp key (drop i xs))) (none_after cmp key (take i xs) between.0)
      ∙ found_first (λ x. is_lt (cmp key x.0)) (drop i xs) (each_weaker _ _ (λ x e. ap is_lt e) (drop i xs) between.1)
      ∙ first_dropped xs i

  pub before_between : pair_before cmp key xs ≡ last_pair (take i xs)
  before_between =
      ap (pair_before cmp key) (sym (take-append-drop i xs)) ∙ ap (find (λ x. is_gt (cmp key x.0))) (reverse-append (take i xs) (drop i xs))
      ∙ find-append (λ x. is_gt (cmp key x.0)) (reverse (drop i xs)) (reverse (take i xs))
      ∙ ap (λ f. option_or f (pair_before cmp key (take i xs))) (none_before cmp key (drop i xs) between.1)
      ∙ found_first (λ x. is_gt (cmp key x.0)) (reverse (take i xs)) (each_reverse _ (take i xs) (each_weaker _ _ (λ x e. ap is_gt e) (take i xs) between.0))

  pub above_between : pairs_above cmp key xs ≡ drop i xs
  above_between =
      ap (pairs_above cmp key) (sym (take-append-drop i xs)) ∙ filter-append (λ x. is_lt (cmp key x.0)) (take i xs) (drop i xs)
      ∙ ap (λ l. l ++ pairs_above cmp key (drop i xs)) (none_above cmp key (take i xs) between.0)
      ∙ all_above cmp key (drop i xs) between.1

-- the same of the pairs of a run
pub none_behind : {K V : Type 0} (cmp : K → K → Ordering) (key : K) (run : List (Entry K V)) → IsBelow cmp key (drop (length run) (run_pairs run))
none_behind cmp key [] = tt
none_behind cmp key (entry ∷ rest) = none_behind cmp key rest

module _ {K V : Type 0} (run : List (Entry K V)) (i : ℕ) (entry : Entry K V) (h : i < length run) (is : entry ≡ get_or run i entry) where
  pub in_run : i < length (run_pairs run)
  in_run = rw (run_length run) h

  pub pair_is : (d : K × V) → get_or (run_pairs run) i d ≡ entry.pair.value
  pair_is d = run_at run i entry d h ∙ ap (λ (e : Entry K V). e.pair.value) (sym is)

  pub got : (pair : K × V) → pair ≡ entry.pair.value → Some pair ≡ slice_get (run_pairs run) i
  got pair e = ap Some (e ∙ sym (pair_is pair)) ∙ sym (slice_get-get_or (run_pairs run) i pair in_run)

  module _ {cmp : K → K → Ordering} (o : IsTotalOrder cmp) (key : K) (asc : IsAscending cmp (run_pairs run)) where
    pub run_lesser : cmp key entry.pair.value.0 ≡ Greater → IsAbove cmp key (take (i + 1) (run_pairs run))
    run_lesser e = lesser_to o key (run_pairs run) i entry.pair.value in_run asc (ap (λ (x : K × V). cmp key x.0) (pair_is entry.pair.value) ∙ e)

    pub run_greater : cmp key entry.pair.value.0 ≡ Less → IsBelow cmp key (drop i (run_pairs run))
    run_greater e = greater_from o key (run_pairs run) i entry.pair.value in_run asc (ap (λ (x : K × V). cmp key x.0) (pair_is entry.pair.value) ∙ e)

pub not_got : {K V : Type 0} (run : List (Entry K V)) (i : ℕ) → length run ≤ i → None ≡ slice_get (run_pairs run) i
not_got [] i h = refl
not_got (e ∷ rest) zero h = absurd (omega arith)
not_got (e ∷ rest) (suc i) h = not_got rest i (omega arith)

-- a place that a key's pair has
module _ {K V : Type 0} {cmp : K → K → Ordering} (o : IsTotalOrder cmp) (key : K) (run : List (Entry K V)) (i : ℕ) (h : i < length run) (asc : IsAscending cmp (run_pairs run)) (at : IsAt cmp key (run_pairs run) i) where
  some_pair : (xs : List (K × V)) → i < length xs → K × V
  some_pair [] f = absurd (omega arith)
  some_pair (x ∷ xs) f = x

  pub place_found : pair_at cmp key (run_pairs run) ≡ slice_get (run_pairs run) i
  place_found = let f : i < length (run_pairs run) = rw (run_length run) h in let d = some_pair (run_pairs run) f in found_at o key (run_pairs run) i d f asc (at d)

  pub place_above : pairs_above cmp key (run_pairs run) ≡ drop (i + 1) (run_pairs run)
  place_above = let f : i < length (run_pairs run) = rw (run_length run) h in let d = some_pair (run_pairs run) f in found_above o key (run_pairs run) i d f asc (at d)

-- a run's first entry parts its pairs from those in front
pub first_parting : {K V : Type 0} (front : K → ℕ) (entry : Entry K V) (run : List (Entry K V)) → 0 < length run → entry ≡ get_or run 0 entry → AreFronted front run → IsParting front entry (run_pairs run)
first_parting {K} {V} front entry [] h is own = absurd (omega arith)
first_parting {K} {V} front entry (e ∷ rest) h is own = (ap (λ (x : Entry K V). Some x.pair.value) (sym is), subst (IsFronted front) (sym is) own.0)

pub first_parts : {K V : Type 0} (front : K → ℕ) (run : List (Entry K V)) (pairs : List (K × V)) (r : Option (Bor (Entry K V))) → option_copied r ≡ slice_get run 0 → IsRunFronted front run → first_pair (run_pairs run) ≡ first_pair pairs → IfSome r (λ entry. IsParting front entry.now pairs)
first_parts front run pairs None is own same = tt
first_parts front [] pairs (Some entry) is own same = absurd (omega (arith, own.0))
first_parts {K} {V} front (e ∷ rest) pairs (Some entry) is own same =
    let first : entry.now ≡ e = cc in
    (sym same ∙ ap (λ (x : Entry K V). Some x.pair.value) (sym first), subst (IsFronted front) (sym first) own.1.0)
