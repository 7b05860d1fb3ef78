-- What is found in pairs after a change at one key.
use Rattle.std.proofs.Common.{◌≡◌, refl, sym, ap, ◌∙◌, Bool, true, false, List, [], ◌∷◌, Option, Some, None, cond, true≢false}
use Rattle.std.specs.Option.{option_or, option_map}
use Rattle.std.specs.List.{filter, find}
use Rattle.std.specs.declared.cmp.Ordering.{Ordering}
use Rattle.std.specs.declared.cmp.Ordering.TheVariants.{Less, Equal, Greater}
use Rattle.std.specs.Ordering.{is_lt, is_gt, is_eq, is_ne, ordering_reverse}
use Rattle.std.specs.Cmp.{IsTotalOrder}
use Rattle.std.proofs.lemmas.Cmp.{tied_itself, alike_right}
use Rattle.std.proofs.lemmas.List.Folds.{find-append}
use Rattle.shared_tree.specs.Pairs.{pairs_below, pairs_above, pair_at, value_at, pairs_with, pairs_without}

module _ {X : Type 0} (p q : X → Bool) where
  -- a filter that keeps all that passes a test changes nothing of the first that does
  find_kept : ((x : X) → q x ≡ true → p x ≡ true) → (xs : List X) → find q (filter p xs) ≡ find q xs
  find_kept keeps [] = refl
  find_kept keeps (x ∷ xs) =
      elim (p x) as (λ b. p x ≡ b → find q (cond b (x ∷ filter p xs) (filter p xs)) ≡ cond (q x) (Some x) (find q xs)) [
        | true ↦ λ e. ap (cond (q x) (Some x)) (find_kept keeps xs)
        | false ↦ λ e.
            elim (q x) as (λ c. q x ≡ c → find q (filter p xs) ≡ cond c (Some x) (find q xs)) [
              | true ↦ λ f. absurd (true≢false (sym (keeps x f) ∙ e))
              | false ↦ λ f. find_kept keeps xs
            ] refl
      ] refl

  -- one that keeps nothing of what passes leaves none to find
  find_lost : ((x : X) → q x ≡ true → p x ≡ false) → (xs : List X) → find q (filter p xs) ≡ None
  find_lost loses [] = refl
  find_lost loses (x ∷ xs) =
      elim (p x) as (λ b. p x ≡ b → find q (cond b (x ∷ filter p xs) (filter p xs)) ≡ None) [
        | true ↦ λ e.
            elim (q x) as (λ c. q x ≡ c → cond c (Some x) (find q (filter p xs)) ≡ None) [
              | true ↦ λ f. absurd (true≢false (sym e ∙ loses x f))
              | false ↦ λ f. find_lost loses xs
            ] refl
        | false ↦ λ e. find_lost loses xs
      ] refl

equal_is : (r : Ordering) → is_eq r ≡ true → r ≡ Equal
equal_is Less e = absurd (true≢false (sym e))
equal_is Equal e = refl
equal_is Greater e = absurd (true≢false (sym e))

other_kept : (r : Ordering) → is_eq r ≡ false → is_ne r ≡ true
other_kept Less e = refl
other_kept Equal e = absurd (true≢false e)
other_kept Greater e = refl

turned : (r : Ordering) → is_eq (ordering_reverse r) ≡ is_eq r
turned Less = refl
turned Equal = refl
turned Greater = refl

apart : {K : Type 0} {cmp : K → K → Ordering} → IsTotalOrder cmp → (key other : K) → is_eq (cmp key other) ≡ false → is_eq (cmp other key) ≡ false
apart o key other e = ap is_eq (o.antisymm other key) ∙ turned _ ∙ e

or_none : {X : Type 0} (o : Option X) → option_or o None ≡ o
or_none None = refl
or_none (Some x) = refl

module _ {K V : Type 0} {cmp : K → K → Ordering} (o : IsTotalOrder cmp) where
  -- a key that is another's stands to a third as that one does
  same_place : (key other : K) (x : K × V) → is_eq (cmp other x.0) ≡ true → cmp key x.0 ≡ cmp key other
  same_place key other x e = sym (alike_right o other x.0 key (equal_is _ e))

  pub put_at : (key : K) (value : V) (xs : List (K × V)) → value_at cmp key (pairs_with cmp key value xs) ≡ Some value
  put_at key value xs =
      let none : pair_at cmp key (pairs_below cmp key xs) ≡ None = find_lost (λ x. is_gt (cmp key x.0)) (λ x. is_eq (cmp key x.0)) (λ x e. ap is_gt (equal_is _ e)) xs in
      let here : is_eq (cmp key key) ≡ true = ap is_eq (tied_itself o key) in
      ap (option_map (λ x. x.1))
      (find-append (λ x. is_eq (cmp key x.0)) (pairs_below cmp key xs) ((key, value) ∷ pairs_above cmp key xs)
      ∙ ap (λ f. option_or f (cond (is_eq (cmp key key)) (Some (key, value)) (pair_at cmp key (pairs_above cmp key xs)))) none
      ∙ ap (λ b. cond b (Some (key, value)) (pair_at cmp key (pairs_above cmp key xs))) here)

  -- what is at another key is below this one or above it
  elsewhere : (key other : K) (xs : List (K × V)) (r : Ordering) → cmp key other ≡ r → is_eq r ≡ false → option_or (pair_at cmp other (pairs_below cmp key xs)) (pair_at cmp other (pairs_above cmp key xs)) ≡ pair_at cmp other xs
  elsewhere key other xs Less e f =
      let none : pair_at cmp other (pairs_below cmp key xs) ≡ None = find_lost (λ x. is_gt (cmp key x.0)) (λ x. is_eq (cmp other x.0)) (λ x h. ap is_gt (same_place key other x h ∙ e)) xs in
      ap (λ g. option_or g (pair_at cmp other (pairs_above cmp key xs))) none
      ∙ find_kept (λ x. is_lt (cmp key x.0)) (λ x. is_eq (cmp other x.0)) (λ x h. ap is_lt (same_place key other x h ∙ e)) xs
  elsewhere key other xs Equal e f = absurd (true≢false f)
  elsewhere key other xs Greater e f =
      let none : pair_at cmp other (pairs_above cmp key xs) ≡ None = find_lost (λ x. is_lt (cmp key x.0)) (λ x. is_eq (cmp other x.0)) (λ x h. ap is_lt (same_place key other x h ∙ e)) xs in
      ap (option_or (pair_at cmp other (pairs_below cmp key xs))) none
      ∙ or_none (pair_at cmp other (pairs_below cmp key xs))
      ∙ find_kept (λ x. is_gt (cmp key x.0)) (λ x. is_eq (cmp other x.0)) (λ x h. ap is_gt (same_place key other x h ∙ e)) xs

  pub put_elsewhere : (key other : K) (value : V) (xs : List (K × V)) → is_eq (cmp key other) ≡ false → value_at cmp other (pairs_with cmp key value xs) ≡ value_at cmp other xs
  put_elsewhere key other value xs e =
      ap (option_map (λ x. x.1))
      (find-append (λ x. is_eq (cmp other x.0)) (pairs_below cmp key xs) ((key, value) ∷ pairs_above cmp key xs)
      ∙ ap (λ b. option_or (pair_at cmp other (pairs_below cmp key xs)) (cond b (Some (key, value)) (pair_at cmp other (pairs_above cmp key xs)))) (apart o key other e)
      ∙ elsewhere key other xs (cmp key other) refl e)

  pub gone_at : (key : K) (xs : List (K × V)) → value_at cmp key (pairs_without cmp key xs) ≡ None
  gone_at key xs = ap (option_map (λ x. x.1)) (find_lost (λ x. is_ne (cmp key x.0)) (λ x. is_eq (cmp key x.0)) (λ x e. ap is_ne (equal_is _ e)) xs)

  pub gone_elsewhere : (key other : K) (xs : List (K × V)) → is_eq (cmp key other) ≡ false → value_at cmp other (pairs_without cmp key xs) ≡ value_at cmp other xs
  gone_elsewhere key other xs e =
      ap (option_map (λ x. x.1)) (find_kept (λ x. is_ne (cmp key x.0)) (λ x. is_eq (cmp other x.0)) (λ x h. ap is_ne (same_place key other x h) ∙ other_kept _ e) xs)
