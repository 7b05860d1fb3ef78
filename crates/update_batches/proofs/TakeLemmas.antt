-- A list that is taken from its front, one element after the other.
use Rattle.std.proofs.Common.{◌≡◌, ◌∙◌, refl, ℕ, zero, suc, ◌+◌, ◌≤◌, List, [], ◌∷◌, ◌++◌, take, drop, Option, None, Some, sym, ap, subst, add-one, arith}
use Rattle.std.specs.Prelude.{slice_get}
use Rattle.std.proofs.lemmas.Option.{none-some, same_Some}
use Rattle.std.proofs.lemmas.List.{drop-map}
use Rattle.update_batches.specs.BoundedQueue.{Line, items_of, without_first}

module _ {X : Type 0} where
  one_more : (i : ℕ) (l : List X) (x : X) → slice_get (drop i l) 0 ≡ Some x → take (suc i) l ≡ take i l ++ x ∷ []
  one_more zero [] x is = absurd (none-some x is)
  one_more zero (y ∷ ys) x is = ap (λ first. first ∷ []) (same_Some y x is)
  one_more (suc i) [] x is = absurd (none-some x is)
  one_more (suc i) (y ∷ ys) x is = ap (λ front. y ∷ front) (one_more i ys x is)

  one_less : (i : ℕ) (l : List X) → drop 1 (drop i l) ≡ drop (suc i) l
  one_less zero l = refl
  one_less (suc i) [] = refl
  one_less (suc i) (y ∷ ys) = one_less i ys

  -- none is left
  none_left : (i room : ℕ) (l : List X) → i ≤ room → slice_get (drop i l) 0 ≡ None → (take i l ≡ take room l) × (drop i l ≡ drop room l)
  none_left zero zero [] le is = (refl, refl)
  none_left zero (suc room) [] le is = (refl, refl)
  none_left zero room (y ∷ ys) le is = absurd (none-some y (sym is))
  none_left (suc i) zero l le is = absurd (omega arith)
  none_left (suc i) (suc room) [] le is = (refl, refl)
  none_left (suc i) (suc room) (y ∷ ys) le is = let all = none_left i room ys (omega arith) is in (ap (λ front. y ∷ front) all.0, all.1)

  -- what waits first, once so many were taken
  pub first_behind : (i : ℕ) (line now : Line X) (o : Option X) → now ≡ without_first i line → o ≡ slice_get (items_of now) 0 → slice_get (drop i (items_of line)) 0 ≡ o
  first_behind i line now o is first = ap (λ l. slice_get l 0) (drop-map (λ item. item.0) i line.items ∙ sym (ap items_of is)) ∙ sym first

  -- one more is taken
  pub taken_more : (i : ℕ) (l : List X) (x : X) → slice_get (drop i l) 0 ≡ Some x → take (i + 1) l ≡ take i l ++ x ∷ []
  taken_more i l x is = let P : ℕ → Type 0 = λ n. take n l ≡ take i l ++ x ∷ [] in subst P (sym (add-one i)) (one_more i l x is)

-- and no longer waits
pub rest_more : {X : Type 0} (i : ℕ) (line now next : Line X) → now ≡ without_first i line → next ≡ without_first 1 now → next ≡ without_first (i + 1) line
rest_more {X} i line now next is rest =
    let of_items : List (X × ℕ) → Line X = λ l. record line { items = l } in
    let P : ℕ → Type 0 = λ n. drop 1 (drop i line.items) ≡ drop n line.items in
    rest ∙ ap (without_first 1) is ∙ ap of_items (subst P (sym (add-one i)) (one_less i line.items))
