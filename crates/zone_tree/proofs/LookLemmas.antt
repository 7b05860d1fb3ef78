-- What stands at a name, and whether it exists, by the places that a binary search over the sets gives.
use Rattle.std.proofs.Common.{◌≡◌, refl, sym, ap, ◌∙◌, subst, ℕ, ◌-◌, ◌<◌, ◌≤◌, Bool, true, false, ◌&&◌, List, [], ◌∷◌, length, get_or, take, drop, true≢false, arith, eqb-true, append-nil, ⊎_elim, Option, Some, None, Bor}
use Rattle.std.specs.Prelude.{◌==◌, ◌↔◌}
use Rattle.std.specs.declared.cmp.Ordering.{Ordering}
use Rattle.std.specs.declared.cmp.Ordering.TheVariants.{Less, Equal, Greater}
use Rattle.std.specs.List.{filter, find}
use Rattle.std.specs.List.Sorted.{IsPartitionedBy, IsPartitionPoint}
use Rattle.std.specs.Option.{MatchOption, IfSome, IsNone, option_copied, option_to_list}
use Rattle.std.specs.Ordering.{nat_cmp, is_lt, is_gt, is_le, ordering_then, ordering_reverse}
use Rattle.std.specs.Cmp.{IsTotalOrder, first_so, second_so}
use Rattle.std.proofs.lemmas.Bool.{cases_lt}
use Rattle.std.proofs.lemmas.Cmp.{upto, tied_itself, tied_back, nat_cmp_total}
use Rattle.std.proofs.lemmas.List.Folds.{list_any_none}
use Rattle.std.proofs.lemmas.List.Elements.{recursion_from_All, All-filter}
use Rattle.dns_name.specs.Name.{is_same, is_under, canonical_cmp}
use Rattle.dns_rdata.specs.Record.{Record, owner_of, rtype_of}
use Rattle.zone_tree.specs.Zone.{rrsets_of, rrset_of, exists}
use Rattle.zone_tree.specs.Sets.{records_in, set_cmp, IsSetBefore, AreAscending}
use Rattle.zone_tree.proofs.NameOrder.{canonical_total, same_from_tie, tie_from_same, under_not_before, under_between}
use Rattle.zone_tree.proofs.Rising.{filter_part, any_from_place, rises_weaker, rises_from_pairs, filter_one, find_filter, found_passes}
use Rattle.zone_tree.proofs.SetLemmas.{filter_by_sets, any_by_sets}

-- facts on a total order: where one isn't after another that is before a third, it is before the third
module _ {K : Type 0} {R : K → K → Ordering} (o : IsTotalOrder R) where
  turned_lt : (r : Ordering) → is_lt (ordering_reverse r) ≡ is_gt r
  turned_lt Less = refl
  turned_lt Equal = refl
  turned_lt Greater = refl

  lt_turned : (x y : K) → is_lt (R x y) ≡ is_gt (R y x)
  lt_turned x y = ap is_lt (o.antisymm x y) ∙ turned_lt (R y x)

  not_false : (b : Bool) → (b ≡ false → ⊥) → b ≡ true
  not_false true f = refl
  not_false false f = absurd (f refl)

  pub before_by : (x y z : K) → is_gt (R x y) ≡ false → is_lt (R y z) ≡ true → is_lt (R x z) ≡ true
  before_by x y z h k = lt_turned x z ∙ not_false (is_gt (R z x)) (λ e. true≢false (sym k ∙ lt_turned y z ∙ upto o z x y e h))

  pub not_lt_turned : (x y : K) → is_lt (R x y) ≡ false → is_gt (R y x) ≡ false
  not_lt_turned x y e = sym (lt_turned x y) ∙ e

le_from_not_gt : (o : Ordering) → is_gt o ≡ false → is_le o ≡ true
le_from_not_gt Less e = refl
le_from_not_gt Equal e = refl
le_from_not_gt Greater e = sym e

not_gt_from_le : (o : Ordering) → is_le o ≡ true → is_gt o ≡ false
not_gt_from_le Less e = refl
not_gt_from_le Equal e = refl
not_gt_from_le Greater e = sym e

lt_not_le : (o : Ordering) → is_lt o ≡ true → is_le o ≡ false → ⊥
lt_not_le Less e h = true≢false h
lt_not_le Equal e h = true≢false h
lt_not_le Greater e h = true≢false (sym e)

eq_from_le_not_lt : (o : Ordering) → is_le o ≡ true → is_lt o ≡ false → o ≡ Equal
eq_from_le_not_lt Less e h = absurd (true≢false h)
eq_from_le_not_lt Equal e h = refl
eq_from_le_not_lt Greater e h = absurd (true≢false (sym e))

pub is_false : (b : Bool) → (b ≡ true → ⊥) → b ≡ false
is_false true f = absurd (f refl)
is_false false f = refl

-- a name that is before or after another isn't the same, and one that is before another isn't under it
lt_not_same : (a b : List (List ℕ)) → is_lt (canonical_cmp a b) ≡ true → is_same a b ≡ false
lt_not_same a b h = is_false (is_same a b) (λ e. true≢false (sym h ∙ ap is_lt (tie_from_same a b e)))

gt_not_same : (a b : List (List ℕ)) → is_le (canonical_cmp a b) ≡ false → is_same a b ≡ false
gt_not_same a b h = is_false (is_same a b) (λ e. true≢false (sym (ap is_le (tie_from_same a b e)) ∙ h))

pub lt_not_under : (a b : List (List ℕ)) → is_lt (canonical_cmp a b) ≡ true → is_under a b ≡ false
lt_not_under a b h = is_false (is_under a b) (λ u. true≢false (sym h ∙ lt_turned canonical_total a b ∙ under_not_before a b u))

not_nil : (set : List Record) → 0 < length set → set ≡ [] → ⊥
not_nil [] l e = omega arith
not_nil (r ∷ rs) l e = cc

-- a set that is before another doesn't have an owner after the other's
pub owner_by : (o p : Ordering) → is_lt (ordering_then o p) ≡ true → is_gt o ≡ false
owner_by Less p e = refl
owner_by Equal p e = refl
owner_by Greater p e = absurd (true≢false (sym e))

module _ (sets : List (List Record)) (rising : AreAscending sets) (name : List (List ℕ)) where
  -- owners rise
  pub owners_rise : (i j : ℕ) (d : List Record) → i ≤ j → j < length sets → is_gt (canonical_cmp (owner_of (get_or sets i d)) (owner_of (get_or sets j d))) ≡ false
  owners_rise i j d l m =
      ⊎_elim (λ lt. owner_by (canonical_cmp (owner_of (get_or sets i d)) (owner_of (get_or sets j d))) (nat_cmp (rtype_of (get_or sets i d)) (rtype_of (get_or sets j d))) (rising.ascending i j d lt m))
      (λ ge. let e : i ≡ j = omega arith in
      subst (λ k. is_gt (canonical_cmp (owner_of (get_or sets i d)) (owner_of (get_or sets k d))) ≡ false) e (ap is_gt (tied_itself canonical_total (owner_of (get_or sets i d)))))
      (cases_lt i j)

  -- the sets before a name, and those not after it, are a front of the sets
  pub parted_before : IsPartitionedBy (λ set. is_lt (canonical_cmp (owner_of set) name)) sets
  parted_before i j d l m h = before_by canonical_total (owner_of (get_or sets i d)) (owner_of (get_or sets j d)) name (owners_rise i j d l m) h

  pub parted_upto : IsPartitionedBy (λ set. is_le (canonical_cmp (owner_of set) name)) sets
  parted_upto i j d l m h =
      le_from_not_gt (canonical_cmp (owner_of (get_or sets i d)) name)
      (upto canonical_total (owner_of (get_or sets i d)) (owner_of (get_or sets j d)) name (owners_rise i j d l m) (not_gt_from_le (canonical_cmp (owner_of (get_or sets j d)) name) h))

  module _ (low : ℕ) (below : IsPartitionPoint (λ set. is_lt (canonical_cmp (owner_of set) name) ≡ true) (λ set. is_lt (canonical_cmp (owner_of set) name) ≡ false) sets low) where
    -- the sets at a name lie between those before it and those after it
    module _ (high : ℕ) (bound : high ≤ length sets) (above : IsPartitionPoint (λ set. is_le (canonical_cmp (owner_of set) name) ≡ true) (λ set. is_le (canonical_cmp (owner_of set) name) ≡ false) sets high) where
      pub low_le_high : low ≤ length sets → low ≤ high
      low_le_high l =
          ⊎_elim (λ lt. absurd (lt_not_le (canonical_cmp (owner_of (get_or sets high [])) name) (below.0 high [] (omega arith) lt) (above.1 high [] (omega arith) (omega arith))))
          (λ le. le)
          (cases_lt high low)

      pub sets_at : low ≤ length sets → filter (λ set. is_same (owner_of set) name) sets ≡ take (high - low) (drop low sets)
      sets_at l =
          filter_part (λ set. is_same (owner_of set) name) sets low high (low_le_high l) bound
          (λ k d a b. lt_not_same (owner_of (get_or sets k d)) name (below.0 k d a b))
          (λ k d a b. same_from_tie (owner_of (get_or sets k d)) name (eq_from_le_not_lt (canonical_cmp (owner_of (get_or sets k d)) name) (above.0 k d (omega arith) b) (below.1 k d a (omega arith))))
          (λ k d a b. gt_not_same (owner_of (get_or sets k d)) name (above.1 k d a b))

      pub rrsets_at : low ≤ length sets → records_in (take (high - low) (drop low sets)) ≡ rrsets_of (records_in sets) name
      rrsets_at l = ap records_in (sym (sets_at l)) ∙ sym (filter_by_sets (λ owner _. is_same owner name) sets rising.each)

    -- whether a name exists, by the first set that isn't before it
    pub exists_none : length sets ≤ low → exists (records_in sets) name ≡ false
    exists_none l = any_by_sets (λ owner _. is_under owner name) sets rising.each ∙ list_any_none (λ set. is_under (owner_of set) name) sets (λ k d m. lt_not_under (owner_of (get_or sets k d)) name (below.0 k d (omega arith) (omega arith)))

    pub exists_first : (d : List Record) → low < length sets → exists (records_in sets) name ≡ is_under (owner_of (get_or sets low d)) name
    exists_first e l =
        any_by_sets (λ owner _. is_under owner name) sets rising.each ∙
        any_from_place (λ set. is_under (owner_of set) name) sets low e l (λ k d a b. lt_not_under (owner_of (get_or sets k d)) name (below.0 k d a b))
        (λ k d a b u. under_between name (owner_of (get_or sets low d)) (owner_of (get_or sets k d)) u (not_lt_turned canonical_total (owner_of (get_or sets low d)) name (below.1 low d (omega arith) l)) (owners_rise low k d a b))

-- no two sets in ascending order have one owner and type
pub not_both : (name : List (List ℕ)) (rtype : ℕ) (set other : List Record) → IsSetBefore set other → is_same (owner_of set) name && rtype_of set == rtype ≡ true → is_same (owner_of other) name && rtype_of other == rtype ≡ false
not_both name rtype set other before here =
    is_false (is_same (owner_of other) name && rtype_of other == rtype)
    (λ there.
    let same = first_so (is_same (owner_of set) name) (rtype_of set == rtype) here in
    let alike = first_so (is_same (owner_of other) name) (rtype_of other == rtype) there in
    let owners : canonical_cmp (owner_of set) (owner_of other) ≡ Equal =
    canonical_total.congr (owner_of set) name (owner_of other) (tie_from_same (owner_of set) name same) ∙ tied_back canonical_total (owner_of other) name (tie_from_same (owner_of other) name alike) in
    let types : rtype_of set ≡ rtype_of other =
    eqb-true (rtype_of set) rtype (second_so (is_same (owner_of set) name) (rtype_of set == rtype) here) ∙ sym (eqb-true (rtype_of other) rtype (second_so (is_same (owner_of other) name) (rtype_of other == rtype) there)) in
    let tied : set_cmp set other ≡ Equal = rw owners (ap (λ t. nat_cmp t (rtype_of other)) types ∙ tied_itself nat_cmp_total (rtype_of other)) in
    true≢false (sym before ∙ ap is_lt tied))

-- the records of one owner and type are those of the set of that type among the sets at the name
pub rrset_at : (sets : List (List Record)) → AreAscending sets → (name : List (List ℕ)) (rtype : ℕ)
    → rrset_of (records_in sets) name rtype ≡ records_in (option_to_list (find (λ set. rtype_of set == rtype) (filter (λ set. is_same (owner_of set) name) sets)))
rrset_at sets rising name rtype =
    filter_by_sets (λ owner t. is_same owner name && t == rtype) sets rising.each ∙
    ap records_in (filter_one (λ set. is_same (owner_of set) name && rtype_of set == rtype) sets (rises_weaker IsSetBefore (λ set other. is_same (owner_of set) name && rtype_of set == rtype ≡ true → is_same (owner_of other) name && rtype_of other == rtype ≡ false) (not_both name rtype) sets (rises_from_pairs IsSetBefore sets rising.ascending)) ∙
    ap option_to_list (find_filter (λ set. is_same (owner_of set) name) (λ set. rtype_of set == rtype) sets))

-- so what a find by the type gives of the sets at the name is that set, and none where there is none
pub rrset_found : (sets : List (List Record)) → AreAscending sets → (name : List (List ℕ)) (rtype : ℕ) (at : List (List Record)) → filter (λ set. is_same (owner_of set) name) sets ≡ at
    → (r : Option (List Record)) → r ≡ find (λ set. rtype_of set == rtype) at
    → MatchOption r (rrset_of (records_in sets) name rtype ≡ []) (λ set. (set ≡ rrset_of (records_in sets) name rtype) × (rrset_of (records_in sets) name rtype ≡ [] → ⊥))
rrset_found sets rising name rtype at e None q =
    rrset_at sets rising name rtype ∙ ap (λ l. records_in (option_to_list (find (λ set. rtype_of set == rtype) l))) e ∙ ap (λ o. records_in (option_to_list o)) (sym q)
rrset_found sets rising name rtype at e (Some set) q =
    let is : rrset_of (records_in sets) name rtype ≡ set =
    rrset_at sets rising name rtype ∙ ap (λ l. records_in (option_to_list (find (λ set. rtype_of set == rtype) l))) e ∙ ap (λ o. records_in (option_to_list o)) (sym q) ∙ append-nil set in
    let some : 0 < length set =
    subst (λ o. IfSome o (λ s. 0 < length s)) (ap (find (λ set. rtype_of set == rtype)) e ∙ sym q)
    (found_passes (λ s. 0 < length s) (λ set. rtype_of set == rtype) (filter (λ set. is_same (owner_of set) name) sets)
    (recursion_from_All (λ s. 0 < length s) (filter (λ set. is_same (owner_of set) name) sets) (All-filter (λ set. is_same (owner_of set) name) (λ s. 0 < length s) sets (λ k d l. (rising.each k d l).some)))) in
    (sym is, λ none. not_nil set some (sym is ∙ none))

-- and as a call answers it
pub rrset_clauses : (records : List Record) (r : Option (Bor (List Record))) → MatchOption (option_copied r) (records ≡ []) (λ set. (set ≡ records) × (records ≡ [] → ⊥)) → (IsNone r ↔ (records ≡ [])) × IfSome r (λ set. set.now ≡ records)
rrset_clauses records None h = ((λ _. h, λ _. refl), tt)
rrset_clauses records (Some set) h = ((λ e. cc, λ e. absurd (h.1 e)), h.0)
