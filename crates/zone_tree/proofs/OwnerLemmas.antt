-- Sets put one behind another under their owners.
use Rattle.std.proofs.Common.{◌≡◌, refl, sym, ap, ◌∙◌, subst, ℕ, ◌+◌, ◌<◌, true, false, List, [], ◌∷◌, ◌++◌, length, map, take, drop, get_or, append_assoc, append-nil, length-append, arith, true≢false}
use Rattle.std.specs.Prelude.{Result, Ok, Err, OnOk}
use Rattle.std.specs.declared.cmp.Ordering.{Ordering}
use Rattle.std.specs.declared.cmp.Ordering.TheVariants.{Less, Equal, Greater}
use Rattle.std.specs.List.{AllByRecursion}
use Rattle.std.proofs.lemmas.List.{take-append-drop, drop_more}
use Rattle.std.specs.Ordering.{nat_cmp, is_lt, ordering_then}
use Rattle.dns_name.specs.Name.{is_same, canonical_cmp, fold_name}
use Rattle.dns_rdata.specs.Record.{Record, owner_of, rtype_of}
use Rattle.shared_tree.proofs.PairLemmas.{Around, around, ascends_append, each_front, each_behind}
use Rattle.zone_tree.specs.Sets.{IsSetBefore, AreAscending}
use Rattle.zone_tree.specs.Filed.{Filed, sets_under, IsFiled, AreGathered, AreBefore, IsBehind}
use Rattle.zone_tree.proofs.NameOrder.{canonical_total, folds_from_same, same_from_tie}
use Rattle.zone_tree.proofs.Rising.{each_weaker, each_append, Rises, rises_from_pairs}

-- the sets of owners behind others
pub sets_under-append : (front back : List Filed) → sets_under (front ++ back) ≡ sets_under front ++ sets_under back
sets_under-append [] back = refl
sets_under-append (pair ∷ front) back = ap (λ l. pair.1.items ++ l) (sets_under-append front back) ∙ sym (append_assoc pair.1.items (sets_under front) (sets_under back))

-- the sets of the last owner are the last
pub sets_under-last : (front : List Filed) (last : Filed) → sets_under (front ++ last ∷ []) ≡ sets_under front ++ last.1.items
sets_under-last front last = sets_under-append front (last ∷ []) ∙ ap (λ l. sets_under front ++ l) (append-nil last.1.items)

-- one more set of the last owner
module _ (front : List Filed) (last more : Filed) (sets : List (List Record)) (set : List Record) (h : AreGathered (front ++ last ∷ []) sets) where
  sides : Around canonical_cmp front last []
  sides = around canonical_cmp front last [] h.ascends

  pub grown : more.0 ≡ last.0 → more.1.items ≡ last.1.items ++ set ∷ [] → owner_of set ≡ last.0 → AreGathered (front ++ more ∷ []) (sets ++ set ∷ [])
  grown key items own =
      let filed = (each_behind IsFiled front (last ∷ []) h.each).0 in
      record {
        all =
            sets_under-last front more ∙ ap (λ l. sets_under front ++ l) items ∙ sym (append_assoc (sets_under front) last.1.items (set ∷ [])) ∙
            ap (λ l. l ++ set ∷ []) (sym (sets_under-last front last) ∙ h.all);
        each = each_append IsFiled front (more ∷ []) (each_front IsFiled front (last ∷ []) h.each) (
          record {
            some = omega (arith, ap length items, length-append last.1.items (set ∷ []));
            own = subst (AllByRecursion (λ s. owner_of s ≡ more.0)) (sym items)
                (each_append (λ s. owner_of s ≡ more.0) last.1.items (set ∷ []) (each_weaker (λ s. owner_of s ≡ last.0) (λ s. owner_of s ≡ more.0) (λ s e. e ∙ sym key) last.1.items filed.own) (own ∙ sym key, tt));
          },
          tt,
        );
        ascends = ascends_append canonical_cmp front (more ∷ []) sides.left_ascends (tt, tt)
            (each_weaker (λ pair. canonical_cmp pair.0 last.0 ≡ Less) (λ pair. AllByRecursion (λ y. canonical_cmp pair.0 y.0 ≡ Less) (more ∷ [])) (λ pair e. (ap (canonical_cmp pair.0) key ∙ e, tt)) front sides.below);
        folded = each_append (λ pair. pair.0 ≡ fold_name pair.0) front (more ∷ []) (each_front (λ pair. pair.0 ≡ fold_name pair.0) front (last ∷ []) h.folded)
            (subst (λ name. name ≡ fold_name name) (sym key) (each_behind (λ pair. pair.0 ≡ fold_name pair.0) front (last ∷ []) h.folded).0, tt);
      }

  -- where the owner of a set behind all others isn't the last one, it comes behind it
  less_by : (o p : Ordering) → is_lt (ordering_then o p) ≡ true → (o ≡ Equal → ⊥) → o ≡ Less
  less_by Less p e n = refl
  less_by Equal p e n = absurd (n refl)
  less_by Greater p e n = absurd (true≢false (sym e))

  first_behind : (sets : List (List Record)) (name : List (List ℕ)) → 0 < length sets → AllByRecursion (λ s. owner_of s ≡ name) sets → IsBehind set sets → is_same name (owner_of set) ≡ false → canonical_cmp name (owner_of set) ≡ Less
  first_behind [] name l own before apart = absurd (omega arith)
  first_behind (s ∷ sets) name l own before apart =
      subst (λ n. canonical_cmp n (owner_of set) ≡ Less) own.0
      (less_by (canonical_cmp (owner_of s) (owner_of set)) (nat_cmp (rtype_of s) (rtype_of set)) before.0
      (λ tie. true≢false (sym (same_from_tie name (owner_of set) (ap (λ n. canonical_cmp n (owner_of set)) (sym own.0) ∙ tie)) ∙ apart)))

  pub all_before : IsBehind set sets → is_same last.0 (owner_of set) ≡ false → AreBefore (owner_of set) (front ++ last ∷ [])
  all_before before apart =
      let filed = (each_behind IsFiled front (last ∷ []) h.each).0 in
      let own = each_behind (λ other. IsSetBefore other set) (sets_under front) last.1.items (subst (IsBehind set) (sym h.all ∙ sets_under-last front last) before) in
      let less = first_behind last.1.items last.0 filed.some filed.own own apart in
      each_append (λ pair. canonical_cmp pair.0 (owner_of set) ≡ Less) front (last ∷ [])
      (each_weaker (λ pair. canonical_cmp pair.0 last.0 ≡ Less) (λ pair. canonical_cmp pair.0 (owner_of set) ≡ Less) (λ pair e. canonical_total.trans pair.0 last.0 (owner_of set) e less) front sides.below)
      (less, tt)

  -- the owner of a set is the last one where they are the same, since both are in lower case
  pub same_last : owner_of set ≡ fold_name (owner_of set) → is_same last.0 (owner_of set) ≡ true → owner_of set ≡ last.0
  same_last folded same =
      folded ∙ sym (folds_from_same last.0 (owner_of set) same) ∙ sym (each_behind (λ pair. pair.0 ≡ fold_name pair.0) front (last ∷ []) h.folded).0

-- the first set of a new owner
pub put_new : (pairs : List Filed) (next : Filed) (sets : List (List Record)) (set : List Record) → AreGathered pairs sets → next.0 ≡ owner_of set → next.1.items ≡ set ∷ [] → owner_of set ≡ fold_name (owner_of set) → AreBefore (owner_of set) pairs
    → AreGathered (pairs ++ next ∷ []) (sets ++ set ∷ [])
put_new pairs next sets set h key items folded before = record {
  all = sets_under-last pairs next ∙ ap (λ l. sets_under pairs ++ l) items ∙ ap (λ l. l ++ set ∷ []) h.all;
  each = each_append IsFiled pairs (next ∷ []) h.each
      (record { some = omega (arith, ap length items); own = subst (AllByRecursion (λ s. owner_of s ≡ next.0)) (sym items) (sym key, tt) }, tt);
  ascends = ascends_append canonical_cmp pairs (next ∷ []) h.ascends (tt, tt)
      (each_weaker (λ pair. canonical_cmp pair.0 (owner_of set) ≡ Less) (λ pair. AllByRecursion (λ y. canonical_cmp pair.0 y.0 ≡ Less) (next ∷ [])) (λ pair e. (ap (canonical_cmp pair.0) key ∙ e, tt)) pairs before);
  folded = each_append (λ pair. pair.0 ≡ fold_name pair.0) pairs (next ∷ []) h.folded (subst (λ name. name ≡ fold_name name) (sym key) folded, tt);
}

-- of a list that rises, each element in front of one stands so to it
each_before : {X : Type 0} (R : X → X → Type 0) (xs : List X) (y : X) (ys : List X) → Rises R (xs ++ y ∷ ys) → AllByRecursion (λ x. R x y) xs
each_before R [] y ys h = tt
each_before R (x ∷ xs) y ys h = ((each_behind (R x) xs (y ∷ ys) h.0).0, each_before R xs y ys h.1)

-- so each set comes behind those before it
pub next_behind : (all sets : List (List Record)) (set : List Record) → AreAscending all → sets ≡ take (length sets) all → length sets < length all → set ≡ get_or all (length sets) set → IsBehind set sets
next_behind all sets set h front within here =
    let cut : all ≡ sets ++ set ∷ drop (length sets + 1) all =
    sym (take-append-drop (length sets) all) ∙ (λ i. sym front i ++ drop_more all (length sets) set within i) ∙ ap (λ s. sets ++ s ∷ drop (length sets + 1) all) (sym here) in
    each_before IsSetBefore sets set (drop (length sets + 1) all) (subst (Rises IsSetBefore) cut (rises_from_pairs IsSetBefore all h.ascending))

-- what follows from what a call gives
pub weaker_ok : {A E : Type 0} {P Q : Type 0} (r : Result A E) → (P → Q) → OnOk r P → OnOk r Q
weaker_ok (Ok x) f h = f h
weaker_ok (Err e) f h = tt

pub map_same : {X : Type 0} (xs : List X) → map (λ x. x) xs ≡ xs
map_same [] = refl
map_same (x ∷ xs) = ap (λ l. x ∷ l) (map_same xs)

pub before_none : (name : List (List ℕ)) (pairs : List Filed) → length pairs ≡ 0 → AreBefore name pairs
before_none name [] e = tt
before_none name (pair ∷ pairs) e = absurd (omega arith)
