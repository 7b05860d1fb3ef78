-- Keys that are told, each once.
use Rattle.std.proofs.Common.{◌≡◌, refl, ◌⊎◌, ◌++◌, ◌==◌, ◌||◌, ℕ, ◌<◌, Bool, true, false, List, [], ◌∷◌, length, Option, None, Some, option_to_list, append-nil, nat_eq, sym, ap, ◌∙◌, subst, inl, inr, ⊎_elim, arith}
use Rattle.std.specs.List.{list_any, IsDistinct, AllByRecursion}
use Rattle.std.specs.Cmp.{nat_eq_equiv}
use Rattle.std.proofs.lemmas.Bool.{cases_Bool, eqb-true}
use Rattle.std.proofs.lemmas.List.{length_push}
use Rattle.std.proofs.lemmas.List.Folds.{list_any-append}
use Rattle.std.proofs.lemmas.Map.Keys.{IsDistinct-push}
use Rattle.std.proofs.lemmas.Map.Steps.{length-le_from_distinct_below}
use Rattle.worker_jobs.specs.WokenKeys.{AreWoken}

-- a key that is looked for is the same either way round
same_search : (key : ℕ) (keys : List ℕ) → list_any (λ other. other == key) keys ≡ list_any (nat_eq key) keys
same_search key [] = refl
same_search key (first ∷ keys) = ap (λ (b : Bool). b || list_any (λ other. other == key) keys) (nat_eq_equiv.symm first key) ∙ ap (λ (b : Bool). nat_eq key first || b) (same_search key keys)

all_front : (P : ℕ → Type 0) (keys : List ℕ) (key : ℕ) → AllByRecursion P (keys ++ key ∷ []) → AllByRecursion P keys
all_front P [] key all = tt
all_front P (first ∷ keys) key all = (all.0, all_front P keys key all.1)

distinct_front : (keys : List ℕ) (key : ℕ) → IsDistinct nat_eq (keys ++ key ∷ []) → IsDistinct nat_eq keys
unfolding IsDistinct
distinct_front [] key d = tt
distinct_front (first ∷ keys) key d = (all_front (λ y. nat_eq first y ≡ false) keys key d.0, distinct_front keys key d.1)

pub none_told : (most : ℕ) → AreWoken most []
unfolding IsDistinct
none_told most = record { distinct = tt; within = λ key found. absurd (cc) }

-- one more
pub told_more : (most key : ℕ) (keys : List ℕ) → AreWoken most keys → key < most → list_any (λ other. other == key) keys ≡ false → AreWoken most (keys ++ key ∷ [])
told_more most key keys are below fresh = record {
  distinct = IsDistinct-push nat_eq_equiv keys key are.distinct (sym (same_search key keys) ∙ fresh);
  within = λ q found. by q (sym (list_any-append (nat_eq q) keys (key ∷ [])) ∙ found);
}
  where
    by : (q : ℕ) → (list_any (nat_eq q) keys || list_any (nat_eq q) (key ∷ [])) ≡ true → q < most
    by q found =
        ⊎_elim (λ (h : list_any (nat_eq q) keys ≡ true). are.within q h)
        (λ (h : list_any (nat_eq q) keys ≡ false). last q (cases_Bool (nat_eq q key)) (ap (λ (b : Bool). b || list_any (nat_eq q) (key ∷ [])) (sym h) ∙ found))
        (cases_Bool (list_any (nat_eq q) keys))
      where
        last : (q : ℕ) → (nat_eq q key ≡ true) ⊎ (nat_eq q key ≡ false) → list_any (nat_eq q) (key ∷ []) ≡ true → q < most
        last q (inl same) found = subst (λ (n : ℕ). n < most) (sym (eqb-true q key same)) below
        last q (inr other) found = absurd (none (ap (λ (b : Bool). b || false) (sym other) ∙ found))
          where
            none : false ≡ true → ⊥
            none e = cc

-- one less
told_less : (most key : ℕ) (keys : List ℕ) → AreWoken most (keys ++ key ∷ []) → AreWoken most keys
told_less most key keys are = record {
  distinct = distinct_front keys key are.distinct;
  within = λ q found. are.within q (list_any-append (nat_eq q) keys (key ∷ []) ∙ ap (λ (b : Bool). b || list_any (nat_eq q) (key ∷ [])) found);
}

pub told_left : (most : ℕ) (old new : List ℕ) (last : Option ℕ) → old ≡ new ++ option_to_list last → AreWoken most old → AreWoken most new
told_left most old new None is are = subst (λ (l : List ℕ). AreWoken most l) (is ∙ append-nil new) are
told_left most old new (Some key) is are = told_less most key new (subst (λ (l : List ℕ). AreWoken most l) is are)

-- there are fewer than may be, where one is not told yet
pub room_for : (most key : ℕ) (keys : List ℕ) → AreWoken most keys → key < most → list_any (λ other. other == key) keys ≡ false → length keys < most
room_for most key keys are below fresh =
    let more = told_more most key keys are below fresh in
    omega (arith, length-le_from_distinct_below (keys ++ key ∷ []) most more.distinct more.within, length_push keys key)
