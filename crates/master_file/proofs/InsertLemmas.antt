-- Keys in ascending order, with one more in its place.
use Rattle.std.proofs.Common.{◌≡◌, refl, sym, ap, ◌∙◌, ◌+◌, ◌<◌, Bool, true, false, cond, not, ◌&&◌, ◌||◌, List, [], ◌∷◌, length, arith, true≢false}
use Rattle.std.specs.declared.cmp.Ordering.{Ordering}
use Rattle.std.specs.declared.cmp.Ordering.TheVariants.{Less, Equal, Greater}
use Rattle.std.specs.Cmp.{IsTotalOrder}
use Rattle.std.specs.List.{filter, list_any, AllByRecursion}
use Rattle.std.specs.Ordering.{is_eq, is_lt, match_ordering, ordering_reverse}
use Rattle.std.specs.BTreeSet.{insert_key}
use Rattle.std.specs.BTreeMap.{is_at}
use Rattle.zone_tree.proofs.Rising.{Rises, each_weaker}
use Rattle.zone_tree.proofs.SetLemmas.{less}
use Rattle.master_file.proofs.KeptLemmas.{one, count_cons, count_more}

module _ {X : Type 0} {cmp : X → X → Ordering} (total : IsTotalOrder cmp) where
  -- one key before another
  abbrev pub Below : X → X → Type 0
  Below x y = is_lt (cmp x y) ≡ true

  turned : (k x : X) → cmp k x ≡ Greater → Below x k
  turned k x e = ap is_lt (total.antisymm x k ∙ ap ordering_reverse e)

  chains : (x y z : X) → Below x y → Below y z → Below x z
  chains x y z h k = ap is_lt (total.trans x y z (less (cmp x y) h) (less (cmp y z) k))

  each_placed : (P : X → Type 0) (k x : X) (xs more : List X) (o : Ordering) → P k → P x → AllByRecursion P xs → AllByRecursion P more → AllByRecursion P (match_ordering o (k ∷ x ∷ xs) (x ∷ xs) (x ∷ more))
  each_placed P k x xs more Less pk px h m = (pk, (px, h))
  each_placed P k x xs more Equal pk px h m = (px, h)
  each_placed P k x xs more Greater pk px h m = (px, m)

  -- what holds of each key and of one more holds of each with it
  pub each_inserted : (P : X → Type 0) (k : X) (xs : List X) → P k → AllByRecursion P xs → AllByRecursion P (insert_key cmp xs k)
  each_inserted P k [] pk h = (pk, tt)
  each_inserted P k (x ∷ xs) pk h = each_placed P k x xs (insert_key cmp xs k) (cmp k x) pk h.0 h.1 (each_inserted P k xs pk h.1)

  each_above : (k x : X) (xs : List X) (o : Ordering) → cmp k x ≡ o → AllByRecursion (Below x) xs → (o ≡ Greater → AllByRecursion (Below x) (insert_key cmp xs k)) → Rises Below xs → Rises Below (insert_key cmp xs k) → Rises Below (match_ordering o (k ∷ x ∷ xs) (x ∷ xs) (x ∷ insert_key cmp xs k))
  each_above k x xs Less e h hm r rm =
      let before : Below k x = ap is_lt e in
      ((before, each_weaker (Below x) (Below k) (λ y b. chains k x y before b) xs h), (h, r))
  each_above k x xs Equal e h hm r rm = (h, r)
  each_above k x xs Greater e h hm r rm = (hm refl, rm)

  -- the order stays
  pub rises_inserted : (k : X) (xs : List X) → Rises Below xs → Rises Below (insert_key cmp xs k)
  rises_inserted k [] h = (tt, tt)
  rises_inserted k (x ∷ xs) h =
      each_above k x xs (cmp k x) refl h.0 (λ e. each_inserted (Below x) k xs (turned k x e) h.0) h.1 (rises_inserted k xs h.1)

  none_tied : (k x : X) (xs : List X) → cmp k x ≡ Less → AllByRecursion (Below x) xs → list_any (is_at (cmp k)) xs ≡ false
  none_tied k x [] e h = refl
  none_tied k x (y ∷ ys) e h =
      let less_y = total.trans k x y e (less (cmp x y) h.0) in
      rw (ap is_eq less_y, none_tied k x ys e h.1) refl

  same_placed : (k x : X) (xs more : List X) (o : Ordering) → cmp k x ≡ o → AllByRecursion (Below x) xs → is_eq o || list_any (is_at (cmp k)) xs ≡ true → (list_any (is_at (cmp k)) xs ≡ true → more ≡ xs) → match_ordering o (k ∷ x ∷ xs) (x ∷ xs) (x ∷ more) ≡ x ∷ xs
  same_placed k x xs more Less e h any so = absurd (true≢false (sym any ∙ none_tied k x xs e h))
  same_placed k x xs more Equal e h any so = refl
  same_placed k x xs more Greater e h any so = ap (λ (ys : List X). x ∷ ys) (so any)

  -- and a key that ties with one changes nothing
  pub same_inserted : (k : X) (xs : List X) → Rises Below xs → list_any (is_at (cmp k)) xs ≡ true → insert_key cmp xs k ≡ xs
  same_inserted k [] h any = absurd (true≢false (sym any))
  same_inserted k (x ∷ xs) h any = same_placed k x xs (insert_key cmp xs k) (cmp k x) refl h.0 any (same_inserted k xs h.1)

  count_by : (p : X → Bool) (k : X) (xs : List X) (there : Bool) → list_any (is_at (cmp k)) xs ≡ there → Rises Below xs → length (filter p (insert_key cmp xs k)) ≡ one (not there && p k) + length (filter p xs)
  count_by p k xs true e h = ap (λ (ys : List X). length (filter p ys)) (same_inserted k xs h e) ∙ omega arith
  count_by p k xs false e h = count_more cmp p k xs e

  -- how many a test shows, with one more key
  pub count_inserted : (p : X → Bool) (k : X) (xs : List X) → Rises Below xs → length (filter p (insert_key cmp xs k)) ≡ one (not (list_any (is_at (cmp k)) xs) && p k) + length (filter p xs)
  count_inserted p k xs h = count_by p k xs (list_any (is_at (cmp k)) xs) refl h

  some_first : (p : X → Bool) (k x : X) (xs : List X) (o : Ordering) → cmp k x ≡ o → (cmp k x ≡ Equal → p k ≡ p x) → p k ≡ true → is_eq o || list_any (is_at (cmp k)) xs ≡ true → (list_any (is_at (cmp k)) xs ≡ true → 0 < length (filter p xs)) → 0 < length (filter p (x ∷ xs))
  some_first p k x xs Equal e same shows any more = let c = count_cons p x xs in let b : one (p x) ≡ 1 = ap one (sym (same e) ∙ shows) in omega arith
  some_first p k x xs Less e same shows any more = let c = count_cons p x xs in let m = more any in omega arith
  some_first p k x xs Greater e same shows any more = let c = count_cons p x xs in let m = more any in omega arith

  -- a test that tied keys pass alike shows one where it shows a key that ties with one
  pub some_tied : (p : X → Bool) → ((k x : X) → cmp k x ≡ Equal → p k ≡ p x) → (k : X) (xs : List X) → p k ≡ true → list_any (is_at (cmp k)) xs ≡ true → 0 < length (filter p xs)
  some_tied p same k [] shows any = absurd (true≢false (sym any))
  some_tied p same k (x ∷ xs) shows any = some_first p k x xs (cmp k x) refl (same k x) shows any (some_tied p same k xs shows)

  in_front : (k : X) (xs : List X) → AllByRecursion (Below k) xs → insert_key cmp xs k ≡ k ∷ xs
  in_front k [] h = refl
  in_front k (x ∷ xs) h = ap (λ (o : Ordering). match_ordering o (k ∷ x ∷ xs) (x ∷ xs) (x ∷ insert_key cmp xs k)) (less (cmp k x) h.0)

  each_filtered : (P : X → Type 0) (p : X → Bool) (xs : List X) → AllByRecursion P xs → AllByRecursion P (filter p xs)
  each_filtered P p [] h = tt
  each_filtered P p (x ∷ xs) h = by (p x) (each_filtered P p xs h.1)
    where
      by : (b : Bool) → AllByRecursion P (filter p xs) → AllByRecursion P (cond b (x ∷ filter p xs) (filter p xs))
      by true more = (h.0, more)
      by false more = more

  filter_placed : (k x : X) (b c : Bool) (xs more : List X) (o : Ordering) → cmp k x ≡ o → (o ≡ Equal → b ≡ c) → (o ≡ Less → AllByRecursion (Below k) xs) → more ≡ cond b (insert_key cmp xs k) xs
      → match_ordering o (cond b (k ∷ cond c (x ∷ xs) xs) (cond c (x ∷ xs) xs)) (cond c (x ∷ xs) xs) (cond c (x ∷ more) more) ≡ cond b (insert_key cmp (cond c (x ∷ xs) xs) k) (cond c (x ∷ xs) xs)
  filter_placed k x true true xs more o e tied above so = by o e so
    where
      by : (o : Ordering) → cmp k x ≡ o → more ≡ insert_key cmp xs k → match_ordering o (k ∷ x ∷ xs) (x ∷ xs) (x ∷ more) ≡ insert_key cmp (x ∷ xs) k
      by o e so = ap (λ (ys : List X). match_ordering o (k ∷ x ∷ xs) (x ∷ xs) (x ∷ ys)) so ∙ ap (λ (o : Ordering). match_ordering o (k ∷ x ∷ xs) (x ∷ xs) (x ∷ insert_key cmp xs k)) (sym e)
  filter_placed k x true false xs more Less e tied above so = sym (in_front k xs (above refl))
  filter_placed k x true false xs more Equal e tied above so = absurd (true≢false (tied refl))
  filter_placed k x true false xs more Greater e tied above so = so
  filter_placed k x false c xs more Less e tied above so = refl
  filter_placed k x false c xs more Equal e tied above so = refl
  filter_placed k x false c xs more Greater e tied above so = ap (λ (ys : List X). cond c (x ∷ ys) ys) so

  filter_chosen : (p : X → Bool) (o : Ordering) (xs ys zs : List X) → filter p (match_ordering o xs ys zs) ≡ match_ordering o (filter p xs) (filter p ys) (filter p zs)
  filter_chosen p Less xs ys zs = refl
  filter_chosen p Equal xs ys zs = refl
  filter_chosen p Greater xs ys zs = refl

  -- what a test that tied keys pass alike shows of keys with one more
  pub filter_inserted : (p : X → Bool) → ((k x : X) → cmp k x ≡ Equal → p k ≡ p x) → (k : X) (xs : List X) → Rises Below xs → filter p (insert_key cmp xs k) ≡ cond (p k) (insert_key cmp (filter p xs) k) (filter p xs)
  filter_inserted p same k [] h = refl
  filter_inserted p same k (x ∷ xs) h =
      filter_chosen p (cmp k x) (k ∷ x ∷ xs) (x ∷ xs) (x ∷ insert_key cmp xs k)
      ∙ filter_placed k x (p k) (p x) (filter p xs) (filter p (insert_key cmp xs k)) (cmp k x) refl (same k x)
      (λ e. each_filtered (Below k) p xs (each_weaker (Below x) (Below k) (λ y b. chains k x y (ap is_lt e) b) xs h.0)) (filter_inserted p same k xs h.1)
