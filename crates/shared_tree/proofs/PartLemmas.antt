-- What the words on pairs give of two lists that the first pair of the second one parts, by where a key stands to it.
use Rattle.std.proofs.Common.{◌≡◌, sym, ap, ◌∙◌, true, false, List, [], ◌∷◌, ◌++◌, subst, Some}
use Rattle.std.specs.Option.{option_or}
use Rattle.std.specs.declared.cmp.Ordering.{Ordering}
use Rattle.std.specs.declared.cmp.Ordering.TheVariants.{Less, Equal, Greater}
use Rattle.std.specs.Ordering.{is_lt}
use Rattle.std.specs.Cmp.{IsTotalOrder}
use Rattle.shared_tree.specs.Pairs.{IsAscending, first_pair, pairs_above, pair_at, pair_before, pair_after, pairs_with, pairs_without}
use Rattle.shared_tree.proofs.PairLemmas.{less_here, equal_here, greater_here, left_ascends, above_less, above_other}

module _ {K V : Type 0} (cmp : K → K → Ordering) where
  pub behind_ascends : (xs ys : List (K × V)) → IsAscending cmp (xs ++ ys) → IsAscending cmp ys
  behind_ascends [] ys h = h
  behind_ascends (x ∷ xs) ys h = behind_ascends xs ys h.1

module _ {K V : Type 0} (cmp : K → K → Ordering) (key : K) (left right : List (K × V)) (pair : K × V) where
  -- the key is less than the pair's: all that is asked is on the left
  pub record PartLess : Type 0 where
    pub ascends : IsAscending cmp left
    pub at : pair_at cmp key (left ++ right) ≡ pair_at cmp key left
    pub after : pair_after cmp key (left ++ right) ≡ option_or (pair_after cmp key left) (Some pair)
    pub before : pair_before cmp key (left ++ right) ≡ pair_before cmp key left
    pub put : (value : V) → pairs_with cmp key value (left ++ right) ≡ pairs_with cmp key value left ++ right
    pub gone : pairs_without cmp key (left ++ right) ≡ pairs_without cmp key left ++ right

  -- it is the pair's
  pub record PartEqual : Type 0 where
    pub ascends : IsAscending cmp right
    pub at : pair_at cmp key (left ++ right) ≡ Some pair
    pub put : (value : V) → pairs_with cmp key value (left ++ right) ≡ left ++ pairs_with cmp key value right
    pub first : (value : V) → first_pair (pairs_with cmp key value right) ≡ Some (key, value)
    pub gone : pairs_without cmp key (left ++ right) ≡ left ++ pairs_without cmp key right

  -- it is greater: all that is asked is on the right
  pub record PartGreater : Type 0 where
    pub ascends : IsAscending cmp right
    pub at : pair_at cmp key (left ++ right) ≡ pair_at cmp key right
    pub before : pair_before cmp key (left ++ right) ≡ pair_before cmp key right
    pub after : pair_after cmp key (left ++ right) ≡ pair_after cmp key right
    pub put : (value : V) → pairs_with cmp key value (left ++ right) ≡ left ++ pairs_with cmp key value right
    pub kept : (value : V) → first_pair (pairs_with cmp key value right) ≡ Some pair
    pub gone : pairs_without cmp key (left ++ right) ≡ left ++ pairs_without cmp key right
    pub left_first : first_pair (pairs_without cmp key right) ≡ Some pair

module _ {K V : Type 0} {cmp : K → K → Ordering} (o : IsTotalOrder cmp) (key : K) (left : List (K × V)) where
  part_less : (pair : K × V) (rest : List (K × V)) → IsAscending cmp (left ++ pair ∷ rest) → cmp key pair.0 ≡ Less → PartLess cmp key left (pair ∷ rest) pair
  part_less pair rest h e =
      let here = less_here o key left pair rest h e in
      record { ascends = left_ascends o key left pair rest h; at = here.at; after = here.after; before = here.before; put = here.put; gone = here.gone }

  part_equal : (pair : K × V) (rest : List (K × V)) → IsAscending cmp (left ++ pair ∷ rest) → cmp key pair.0 ≡ Equal → PartEqual cmp key left (pair ∷ rest) pair
  part_equal pair rest h e =
      let right = behind_ascends cmp left (pair ∷ rest) h in
      let here = equal_here o key left pair rest h e in
      let own = equal_here o key [] pair rest right e in
      record {
        ascends = right;
        at = here.at;
        put = λ value. here.put value ∙ ap (λ l. left ++ l) (sym (own.put value));
        first = λ value. ap first_pair (own.put value);
        gone = here.gone ∙ ap (λ l. left ++ l) (sym own.gone);
      }

  part_greater : (pair : K × V) (rest : List (K × V)) → IsAscending cmp (left ++ pair ∷ rest) → cmp key pair.0 ≡ Greater → PartGreater cmp key left (pair ∷ rest) pair
  part_greater pair rest h e =
      let right = behind_ascends cmp left (pair ∷ rest) h in
      let here = greater_here o key left pair rest h e in
      let own = greater_here o key [] pair rest right e in
      record {
        ascends = right;
        at = here.at ∙ sym own.at;
        before = here.before ∙ sym own.before;
        after = here.after ∙ sym own.after;
        put = λ value. here.put value ∙ ap (λ l. left ++ l) (sym (own.put value));
        kept = λ value. ap first_pair (own.put value);
        gone = here.gone ∙ ap (λ l. left ++ l) (sym own.gone);
        left_first = ap first_pair own.gone;
      }

  part_above : (pair : K × V) (rest : List (K × V)) → IsAscending cmp (left ++ pair ∷ rest) → is_lt (cmp key pair.0) ≡ false → pairs_above cmp key (left ++ pair ∷ rest) ≡ pairs_above cmp key (pair ∷ rest)
  part_above pair rest h e = above_other o key left pair rest h e ∙ sym (above_other o key [] pair rest (behind_ascends cmp left (pair ∷ rest) h) e)

  -- the same by the first pair of a list
  pub less_parted : (right : List (K × V)) (pair : K × V) → first_pair right ≡ Some pair → IsAscending cmp (left ++ right) → cmp key pair.0 ≡ Less → PartLess cmp key left right pair
  less_parted [] pair f h e = absurd (cc)
  less_parted (x ∷ rest) pair f h e =
      let same : x ≡ pair = cc in
      subst (λ y. PartLess cmp key left (x ∷ rest) y) same (part_less x rest h (ap (λ (y : K × V). cmp key y.0) same ∙ e))

  pub equal_parted : (right : List (K × V)) (pair : K × V) → first_pair right ≡ Some pair → IsAscending cmp (left ++ right) → cmp key pair.0 ≡ Equal → PartEqual cmp key left right pair
  equal_parted [] pair f h e = absurd (cc)
  equal_parted (x ∷ rest) pair f h e =
      let same : x ≡ pair = cc in
      subst (λ y. PartEqual cmp key left (x ∷ rest) y) same (part_equal x rest h (ap (λ (y : K × V). cmp key y.0) same ∙ e))

  pub greater_parted : (right : List (K × V)) (pair : K × V) → first_pair right ≡ Some pair → IsAscending cmp (left ++ right) → cmp key pair.0 ≡ Greater → PartGreater cmp key left right pair
  greater_parted [] pair f h e = absurd (cc)
  greater_parted (x ∷ rest) pair f h e =
      let same : x ≡ pair = cc in
      subst (λ y. PartGreater cmp key left (x ∷ rest) y) same (part_greater x rest h (ap (λ (y : K × V). cmp key y.0) same ∙ e))

  pub above_parted_less : (right : List (K × V)) (pair : K × V) → first_pair right ≡ Some pair → IsAscending cmp (left ++ right) → is_lt (cmp key pair.0) ≡ true → pairs_above cmp key (left ++ right) ≡ pairs_above cmp key left ++ right
  above_parted_less [] pair f h e = absurd (cc)
  above_parted_less (x ∷ rest) pair f h e = let same : x ≡ pair = cc in above_less o key left x rest h (ap (λ (y : K × V). is_lt (cmp key y.0)) same ∙ e)

  pub above_parted_other : (right : List (K × V)) (pair : K × V) → first_pair right ≡ Some pair → IsAscending cmp (left ++ right) → is_lt (cmp key pair.0) ≡ false → pairs_above cmp key (left ++ right) ≡ pairs_above cmp key right
  above_parted_other [] pair f h e = absurd (cc)
  above_parted_other (x ∷ rest) pair f h e = let same : x ≡ pair = cc in part_above x rest h (ap (λ (y : K × V). is_lt (cmp key y.0)) same ∙ e)

  pub left_parted : (right : List (K × V)) (pair : K × V) → first_pair right ≡ Some pair → IsAscending cmp (left ++ right) → IsAscending cmp left
  left_parted [] pair f h = absurd (cc)
  left_parted (x ∷ rest) pair f h = left_ascends o key left x rest h
