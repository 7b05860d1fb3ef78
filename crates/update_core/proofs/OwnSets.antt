-- The sets of one owner, where some are changed.
use Rattle.std.proofs.Common.{◌≡◌, ℕ, ◌≤◌, ◌-◌, length, take, drop, arith, append_assoc, Bool, true, false, not, ◌&&◌, ◌==◌, cond, List, [], ◌∷◌, ◌++◌, filter, All, refl, sym, ap, subst, ◌∙◌, append-nil, eqb-true}
use Rattle.std.specs.List.{AllByRecursion, insert}
use Rattle.std.specs.List.Sorted.{IsPartitionPoint}
use Rattle.std.specs.Cmp.{Equal-is, both_ways}
use Rattle.std.specs.Ordering.{nat_cmp, is_lt, is_le, is_gt, is_eq, ordering_then, ordering_reverse}
use Rattle.std.specs.declared.cmp.Ordering.{Ordering}
use Rattle.std.specs.declared.cmp.Ordering.TheVariants.{Less, Equal, Greater}
use Rattle.std.proofs.lemmas.Cmp.{tied_itself, nat_cmp_total}
use Rattle.std.proofs.lemmas.List.{take_all, length-drop}
use Rattle.std.proofs.lemmas.List.Elements.{All-from_recursion, recursion_from_All, filter-append}
use Rattle.dns_name.specs.Name.{Name, is_same, canonical_cmp, fold_name}
use Rattle.dns_name.proofs.StoredLemmas.{cmp_folded}
use Rattle.dns_rdata.proofs.NameLemmas.{fold_name-fold_name}
use Rattle.std.proofs.lemmas.List.{length-map}
use Rattle.dns_rdata.specs.Limits.{max_data, max_set}
use Rattle.dns_rdata.specs.Data.{Data}
use Rattle.dns_rdata.specs.Record.{Record, IsLawful, IsSet, records_with, owner_of, rtype_of, ttl_of}
use Rattle.zone_tree.proofs.CheckLemmas.{rrset_from_data}
use Rattle.zone_tree.specs.Zone.{is_of, stands_at, rrsets_of}
use Rattle.zone_tree.specs.Sets.{records_in, IsSetBefore, IsRRset, IsOf, AreAscending}
use Rattle.zone_tree.specs.Change.{with_rrset, without_rrset, beside, changed, edited}
use Rattle.zone_tree.specs.Edit.{put_at, set_beside, AreOwn}
use Rattle.zone_tree.specs.declared.change.Change.{Change}
use Rattle.zone_tree.specs.declared.change.Change.TheVariants.{Put, Remove}
use Rattle.zone_tree.proofs.NameOrder.{canonical_total, same_from_folds}
use Rattle.zone_tree.specs.From.{DoTypesAscend}
use Rattle.zone_tree.proofs.FromLemmas.{types_from}
use Rattle.zone_tree.proofs.ZoneLemmas.{eqb_from_tie}
use Rattle.zone_tree.proofs.LawLemmas.{filter_twice}
use Rattle.zone_tree.proofs.Rising.{each_weaker, each_filter, filter_alike, filter_front, Rises, Rises-filter, rises_from_pairs, pairs_from_rises}
use Rattle.zone_tree.proofs.SetLemmas.{filter_by_sets}
use Rattle.zone_tree.proofs.PutLemmas.{filter_same, put_same, put_each}
use Rattle.zone_tree.proofs.EditLemmas.{put_records, put_ascends}
use Rattle.update_core.specs.Overlay.{IsChangeAt, changed_sets, edited_sets}

-- what a filter keeps passes, and filters one after the other
passes_first : {X : Type 0} (p : X → Bool) (x : X) (xs : List X) (b : Bool) → p x ≡ b → AllByRecursion (λ x. p x ≡ true) (filter p xs) → AllByRecursion (λ x. p x ≡ true) (cond b (x ∷ filter p xs) (filter p xs))
passes_first p x xs true e more = (e, more)
passes_first p x xs false e more = more

pub passes : {X : Type 0} (p : X → Bool) (xs : List X) → AllByRecursion (λ x. p x ≡ true) (filter p xs)
passes p [] = tt
passes p (x ∷ xs) = passes_first p x xs (p x) refl (passes p xs)

pub swapped : {X : Type 0} (p q : X → Bool) (xs : List X) → filter p (filter q xs) ≡ filter q (filter p xs)
swapped p q [] = refl
swapped p q (x ∷ xs) = by (p x) (q x) refl refl (swapped p q xs)
  where
    by : (b c : Bool) → p x ≡ b → q x ≡ c → filter p (filter q xs) ≡ filter q (filter p xs) → filter p (cond c (x ∷ filter q xs) (filter q xs)) ≡ filter q (cond b (x ∷ filter p xs) (filter p xs))
    by true true e f more = rw (e, f) (ap (λ l. x ∷ l) more)
    by true false e f more = rw f more
    by false true e f more = rw e more
    by false false e f more = more

-- types that ascend, without some of them
pub types_kept : (p : List Record → Bool) (sets : List (List Record)) → DoTypesAscend sets → DoTypesAscend (filter p sets)
types_kept p sets h =
    let Lower = λ (s t : List Record). is_lt (nat_cmp (rtype_of s) (rtype_of t)) ≡ true in
    pairs_from_rises Lower (filter p sets) (Rises-filter p Lower sets (rises_from_pairs Lower sets h))

-- how types stand beside each other
pub types_tie : (t u : ℕ) → is_eq (nat_cmp t u) ≡ (t == u)
types_tie t u =
    both_ways (is_eq (nat_cmp t u)) (t == u)
    (λ e. eqb_from_tie t u ((Equal-is (nat_cmp t u)).0 e))
    (λ e. ap (λ n. is_eq (nat_cmp t n)) (sym (eqb-true t u e)) ∙ ap is_eq (tied_itself nat_cmp_total t))

type_above : (t u : ℕ) → (is_le (nat_cmp t u) && not (u == t)) ≡ is_gt (nat_cmp u t)
type_above t u = (λ i. is_le (nat_cmp_total.antisymm t u i) && not (sym (types_tie u t) i)) ∙ by (nat_cmp u t)
  where
    by : (o : Ordering) → (is_le (ordering_reverse o) && not (is_eq o)) ≡ is_gt o
    by Less = refl
    by Equal = refl
    by Greater = refl

type_apart : (t u : ℕ) → not (u == t) ≡ false → is_lt (nat_cmp u t) ≡ false
type_apart t u e = by (nat_cmp u t) (ap not (types_tie u t) ∙ e)
  where
    by : (o : Ordering) → not (is_eq o) ≡ false → is_lt o ≡ false
    by Less e = absurd (cc)
    by Equal e = refl
    by Greater e = refl

-- a set that is inserted at the place of its type, where none of that type is left
pub inserted_is : (own kept : List (List Record)) (set : List Record) (at : ℕ) → kept ≡ filter (λ s. not (rtype_of s == rtype_of set)) own → at ≤ length kept
    → IsPartitionPoint (λ s. is_lt (nat_cmp (rtype_of s) (rtype_of set)) ≡ true) (λ s. is_lt (nat_cmp (rtype_of s) (rtype_of set)) ≡ false) kept at → insert kept at set ≡ put_at (λ s. nat_cmp (rtype_of s) (rtype_of set)) (set ∷ []) own
inserted_is own kept set at is bound place =
    let t = rtype_of set in
    let low : take at kept ≡ filter (λ s. is_lt (nat_cmp (rtype_of s) t)) own =
    sym (filter_front (λ s. is_lt (nat_cmp (rtype_of s) t)) kept at bound place.0 place.1) ∙ ap (filter (λ s. is_lt (nat_cmp (rtype_of s) t))) is
    ∙ kept_through (λ s. is_lt (nat_cmp (rtype_of s) t)) (λ s. not (rtype_of s == t)) (λ s. type_apart t (rtype_of s)) own in
    let high : drop at kept ≡ filter (λ s. is_gt (nat_cmp (rtype_of s) t)) own =
    sym (take_all (length kept - at) (drop at kept) (omega (arith, length-drop at kept))) ∙ sym (types_from kept t at bound place) ∙ ap (filter (λ s. is_le (nat_cmp t (rtype_of s)))) is
    ∙ sym (filter_twice (λ s. is_le (nat_cmp t (rtype_of s))) (λ s. not (rtype_of s == t)) own) ∙ (λ i. filter (λ (s : List Record). type_above t (rtype_of s) i) own) in
    (λ i. low i ++ (set ∷ high i)) ∙ sym (append_assoc (filter (λ s. is_lt (nat_cmp (rtype_of s) t)) own) (set ∷ []) (filter (λ s. is_gt (nat_cmp (rtype_of s) t)) own))
  where
    kept_through : (q p : List Record → Bool) → ((s : List Record) → p s ≡ false → q s ≡ false) → (xs : List (List Record)) → filter q (filter p xs) ≡ filter q xs
    kept_through q p inside [] = refl
    kept_through q p inside (x ∷ xs) = by (p x) refl (kept_through q p inside xs)
      where
        by : (b : Bool) → p x ≡ b → filter q (filter p xs) ≡ filter q xs → filter q (cond b (x ∷ filter p xs) (filter p xs)) ≡ filter q (x ∷ xs)
        by true e more = ap (λ ys. cond (q x) (x ∷ ys) ys) more
        by false e more = more ∙ ap (λ b. cond b (x ∷ filter q xs) (filter q xs)) (sym (inside x e))

-- as a record stands beside an owner in lower case, it stands beside that owner
pub beside_folded : (name owner : Name) → canonical_cmp name (fold_name owner) ≡ canonical_cmp name owner
beside_folded name owner = canonical_total.antisymm name (fold_name owner) ∙ ap ordering_reverse (cmp_folded owner name) ∙ sym (canonical_total.antisymm name owner)

module _ (owner : Name) where
  pub own_ties : (s : List Record) → owner_of s ≡ fold_name owner → canonical_cmp (owner_of s) owner ≡ Equal
  own_ties s e = ap (λ n. canonical_cmp n owner) e ∙ cmp_folded owner owner ∙ tied_itself canonical_total owner

  pub own_same : (name : Name) → name ≡ fold_name owner → is_same name owner ≡ true
  own_same name e = same_from_folds name owner (ap fold_name e ∙ fold_twice)
    where
      fold_twice : fold_name (fold_name owner) ≡ fold_name owner
      fold_twice = fold_name-fold_name owner

  -- the types of its sets ascend
  pub types_rise : (sets : List (List Record)) → AreOwn owner sets → DoTypesAscend sets
  types_rise sets h = pairs_from_rises (λ s t. is_lt (nat_cmp (rtype_of s) (rtype_of t)) ≡ true) sets (by sets h.own (rises_from_pairs IsSetBefore sets h.rising.ascending))
    where
      at : (s t : List Record) → owner_of s ≡ fold_name owner → owner_of t ≡ fold_name owner → IsSetBefore s t → is_lt (nat_cmp (rtype_of s) (rtype_of t)) ≡ true
      at s t e f h =
          let tie : canonical_cmp (owner_of s) (owner_of t) ≡ Equal = (λ i. canonical_cmp (e i) (f i)) ∙ tied_itself canonical_total (fold_name owner) in
          ap (λ o. is_lt (ordering_then o (nat_cmp (rtype_of s) (rtype_of t)))) (sym tie) ∙ h

      each : (s : List Record) (ts : List (List Record)) → owner_of s ≡ fold_name owner → AllByRecursion (λ t. owner_of t ≡ fold_name owner) ts → AllByRecursion (IsSetBefore s) ts → AllByRecursion (λ t. is_lt (nat_cmp (rtype_of s) (rtype_of t)) ≡ true) ts
      each s [] e own h = tt
      each s (t ∷ ts) e own h = (at s t e own.0 h.0, each s ts e own.1 h.1)

      by : (sets : List (List Record)) → AllByRecursion (λ t. owner_of t ≡ fold_name owner) sets → Rises IsSetBefore sets → Rises (λ s t. is_lt (nat_cmp (rtype_of s) (rtype_of t)) ≡ true) sets
      by [] own h = tt
      by (s ∷ sets) own h = (each s sets own.0 own.1 h.0, by sets own.1 h.1)

  -- the records of a set of the owner stand at it
  pub set_at : (set : List Record) → owner_of set ≡ fold_name owner → IsRRset set → filter (stands_at owner) set ≡ set
  set_at set e h =
      filter_alike (stands_at owner) true set
      (each_weaker (IsOf set) (λ r. stands_at owner r ≡ true) (λ r of. own_same r.owner (of.owner ∙ e)) set (recursion_from_All (IsOf set) set h.shared))

  -- what stands at the owner, where others are put in a place
  pub put_at_owner : (b : Record → Ordering) (others zs : List Record) → filter (stands_at owner) (put_at b others zs) ≡ put_at b (filter (stands_at owner) others) (filter (stands_at owner) zs)
  put_at_owner b others zs =
      let low = filter (λ r. is_lt (b r)) zs in
      let high = filter (λ r. is_gt (b r)) zs in
      filter-append (stands_at owner) (low ++ others) high ∙ ap (λ l. l ++ filter (stands_at owner) high) (filter-append (stands_at owner) low others)
      ∙ (λ i. swapped (stands_at owner) (λ r. is_lt (b r)) zs i ++ filter (stands_at owner) others ++ swapped (stands_at owner) (λ r. is_gt (b r)) zs i)

  module _ (zone : List Record) (own : List (List Record)) (mine : AreOwn owner own) (is : records_in own ≡ rrsets_of zone owner) where
    abbrev pub IsOwn : List (List Record) → List Record → Type 0
    IsOwn next after = AreOwn owner next × (records_in next ≡ rrsets_of after owner)

    abbrev put : List Record → List (List Record)
    put set = put_at (λ s. nat_cmp (rtype_of s) (rtype_of set)) (set ∷ []) own

    put_is : (set : List Record) → put set ≡ put_at (set_beside owner (rtype_of set)) (set ∷ []) own
    put_is set =
        put_same (λ s. nat_cmp (rtype_of s) (rtype_of set)) (set_beside owner (rtype_of set)) (set ∷ []) own
        (each_weaker (λ s. owner_of s ≡ fold_name owner) (λ s. nat_cmp (rtype_of s) (rtype_of set) ≡ set_beside owner (rtype_of set) s)
        (λ s e. ap (λ o. ordering_then o (nat_cmp (rtype_of s) (rtype_of set))) (sym (own_ties s e))) own mine.own)

    put_own : (set : List Record) → owner_of set ≡ fold_name owner → IsRRset set → IsOwn (put set) (with_rrset zone set)
    put_own set e h = (
      record {
        rising = subst AreAscending (sym (put_is set)) (put_ascends owner (rtype_of set) (set ∷ []) own mine.rising (h, tt) ((e, refl), tt) (tt, tt));
        own = put_each (λ s. nat_cmp (rtype_of s) (rtype_of set)) (set ∷ []) (λ s. owner_of s ≡ fold_name owner) own mine.own (e, tt);
      },
      ap records_in (put_is set) ∙ put_records owner (rtype_of set) (set ∷ []) own mine.rising.each
          ∙ (λ i. put_at (λ (r : Record). ordering_then (there r.owner i) (nat_cmp r.rtype (rtype_of set))) (append-nil set i) (is i))
          ∙ ap (λ l. put_at (beside set) l (rrsets_of zone owner)) (sym (set_at set e h))
          ∙ sym (put_at_owner (beside set) set zone),
    )
      where
        there : (name : Name) → canonical_cmp name owner ≡ canonical_cmp name (owner_of set)
        there name = sym (beside_folded name owner) ∙ ap (canonical_cmp name) (sym e)

    remove_own : (name : Name) (rtype : ℕ) → name ≡ owner → IsOwn (filter (λ s. not (rtype_of s == rtype)) own) (without_rrset zone name rtype)
    remove_own name rtype e =
        let other = λ (s : List Record). not (rtype_of s == rtype) in (
          record {
            rising = record {
              each = All-from_recursion IsRRset (filter other own) (each_filter other IsRRset own (recursion_from_All IsRRset own mine.rising.each));
              ascending = pairs_from_rises IsSetBefore (filter other own) (Rises-filter other IsSetBefore own (rises_from_pairs IsSetBefore own mine.rising.ascending));
            };
            own = each_filter other (λ s. owner_of s ≡ fold_name owner) own mine.own;
          },
          sym (filter_by_sets (λ o t. not (t == rtype)) own mine.rising.each) ∙ ap (filter (λ (r : Record). not (r.rtype == rtype))) is
              ∙ filter_same (λ (r : Record). not (r.rtype == rtype)) (λ (r : Record). not (is_of owner rtype r)) (rrsets_of zone owner)
              (each_weaker (λ r. stands_at owner r ≡ true) (λ r. not (r.rtype == rtype) ≡ not (is_of owner rtype r)) (λ r same. ap (λ b. not (b && r.rtype == rtype)) (sym same)) (rrsets_of zone owner) (passes (stands_at owner) zone))
              ∙ swapped (λ (r : Record). not (is_of owner rtype r)) (stands_at owner) zone
              ∙ ap (λ n. rrsets_of (without_rrset zone n rtype) owner) (sym e),
        )

    pub changed_own : (change : Change) → IsChangeAt owner change → IsOwn (changed_sets own change) (changed zone change)
    changed_own (Put set) at = put_own set at.0 at.1
    changed_own (Remove name rtype) at = remove_own name rtype.0 at

  pub edited_own : (zone : List Record) (own : List (List Record)) → AreOwn owner own → records_in own ≡ rrsets_of zone owner → (changes : List Change) → AllByRecursion (IsChangeAt owner) changes
      → AreOwn owner (edited_sets own changes) × (records_in (edited_sets own changes) ≡ rrsets_of (edited zone changes) owner)
  edited_own zone own mine is [] at = (mine, is)
  edited_own zone own mine is (change ∷ changes) at =
      let next = changed_own zone own mine is change at.0 in
      edited_own (changed zone change) (changed_sets own change) next.0 next.1 changes at.1

-- a set whose data are known is one, of at most 256 records
pub lawful_of : (set : List Record) (ds : List Data) → set ≡ records_with (owner_of set) (rtype_of set) (ttl_of set) ds → IsSet (owner_of set) (rtype_of set) (ttl_of set) ds → All IsLawful set → All (λ r. length r.rdata ≤ max_data) set → IsRRset set × (length set ≤ max_set)
lawful_of set ds records lawful each short =
    let size = ap length records ∙ length-map ds (λ (d : Data). let own : Record = record { owner = owner_of set; rtype = rtype_of set; ttl = ttl_of set; rdata = d.octets } in own) in
    let most = lawful.few in
    (rrset_from_data set ds records lawful each short, omega (arith, size, most))

-- a set is put in place of the one of its type, which may have been taken out before
pub put_over : (own kept : List (List Record)) (set : List Record) → kept ≡ filter (λ s. not (rtype_of s == rtype_of set)) own
    → put_at (λ s. nat_cmp (rtype_of s) (rtype_of set)) (set ∷ []) kept ≡ put_at (λ s. nat_cmp (rtype_of s) (rtype_of set)) (set ∷ []) own
put_over own kept set is =
    (λ i. (ap (filter (λ s. is_lt (nat_cmp (rtype_of s) (rtype_of set)))) is ∙ through (λ s. is_lt (nat_cmp (rtype_of s) (rtype_of set))) low own) i ++ (set ∷ [])
    ++ (ap (filter (λ s. is_gt (nat_cmp (rtype_of s) (rtype_of set)))) is ∙ through (λ s. is_gt (nat_cmp (rtype_of s) (rtype_of set))) high own) i)
  where
    low : (s : List Record) → not (rtype_of s == rtype_of set) ≡ false → is_lt (nat_cmp (rtype_of s) (rtype_of set)) ≡ false
    low s = type_apart (rtype_of set) (rtype_of s)

    high : (s : List Record) → not (rtype_of s == rtype_of set) ≡ false → is_gt (nat_cmp (rtype_of s) (rtype_of set)) ≡ false
    high s e = by (nat_cmp (rtype_of s) (rtype_of set)) (ap not (types_tie (rtype_of s) (rtype_of set)) ∙ e)
      where
        by : (o : Ordering) → not (is_eq o) ≡ false → is_gt o ≡ false
        by Less e = refl
        by Equal e = refl
        by Greater e = absurd (cc)

    through : (q : List Record → Bool) → ((s : List Record) → not (rtype_of s == rtype_of set) ≡ false → q s ≡ false) → (xs : List (List Record)) → filter q (filter (λ s. not (rtype_of s == rtype_of set)) xs) ≡ filter q xs
    through q inside [] = refl
    through q inside (x ∷ xs) = by (not (rtype_of x == rtype_of set)) refl (through q inside xs)
      where
        by : (b : Bool) → not (rtype_of x == rtype_of set) ≡ b → filter q (filter (λ s. not (rtype_of s == rtype_of set)) xs) ≡ filter q xs
            → filter q (cond b (x ∷ filter (λ s. not (rtype_of s == rtype_of set)) xs) (filter (λ s. not (rtype_of s == rtype_of set)) xs)) ≡ filter q (x ∷ xs)
        by true e more = ap (λ ys. cond (q x) (x ∷ ys) ys) more
        by false e more = more ∙ ap (λ b. cond b (x ∷ filter q xs) (filter q xs)) (sym (inside x e))

-- a set of its type was taken out before
pub kept_by : (own kept : List (List Record)) (set : List Record) (t : ℕ) → t ≡ rtype_of set → kept ≡ filter (λ s. not (rtype_of s == t)) own → kept ≡ filter (λ s. not (rtype_of s == rtype_of set)) own
kept_by own kept set t typed is = is ∙ (λ i. filter (λ (s : List Record). not (rtype_of s == typed i)) own)
