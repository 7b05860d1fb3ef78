-- Owners with their sets, where one owner's are replaced.
use Rattle.std.proofs.Common.{◌≡◌, refl, sym, ap, ◌∙◌, subst, ℕ, ◌+◌, ◌<◌, true, ◌&&◌, List, [], ◌∷◌, ◌++◌, length, ◌≤◌, arith, append-nil, ⊎_elim, Option, Some, None}
use Rattle.std.specs.Prelude.{◌==◌, not, Result, Ok, Err, IfOk}
use Rattle.std.specs.declared.cmp.Ordering.{Ordering}
use Rattle.std.specs.declared.cmp.Ordering.TheVariants.{Less, Equal, Greater}
use Rattle.std.specs.List.{filter, find, All, AllByRecursion}
use Rattle.std.specs.Option.{option_map, option_to_list, IfSome}
use Rattle.std.specs.Ordering.{nat_cmp, is_lt, is_gt, is_eq, is_ne, ordering_then, ordering_reverse}
use Rattle.std.proofs.lemmas.Bool.{cases_lt}
use Rattle.std.proofs.lemmas.Cmp.{tied_itself, nat_cmp_total}
use Rattle.std.proofs.lemmas.Grind.{flat_map-append}
use Rattle.std.proofs.lemmas.List.Elements.{All-from_recursion, recursion_from_All}
use Rattle.dns_name.specs.Name.{is_same, canonical_cmp, fold_name}
use Rattle.dns_name.proofs.StoredLemmas.{cmp_folded}
use Rattle.dns_rdata.specs.Record.{Record, owner_of, rtype_of}
use Rattle.shared_tree.specs.Pairs.{IsAscending, value_at, pairs_below, pairs_above, pairs_with, pairs_without}
use Rattle.shared_tree.proofs.PairLemmas.{each_passes, less_here, equal_here, greater_here, with_ascends, filter_ascends}
use Rattle.zone_tree.specs.Zone.{rrset_of}
use Rattle.zone_tree.specs.Sets.{records_in, set_cmp, IsSetBefore, IsRRset, AreAscending}
use Rattle.zone_tree.specs.Filed.{Own, Filed, sets_under, records_under, IsFiled, AreFiled, items_of}
use Rattle.zone_tree.specs.Change.{with_rrset, without_rrset}
use Rattle.zone_tree.specs.Edit.{put_at, set_beside, IsFor, IsDraft}
use Rattle.zone_tree.proofs.NameOrder.{canonical_total, folds_from_same, tie_from_same}
use Rattle.zone_tree.proofs.Rising.{each_weaker, each_append, each_both, each_filter, Rises, rises_from_pairs, pairs_from_rises}
use Rattle.zone_tree.proofs.SetLemmas.{set_total, filter_by_sets}
use Rattle.zone_tree.proofs.LookLemmas.{rrset_at}
use Rattle.zone_tree.proofs.FiledLemmas.{sets_at_key}
use Rattle.zone_tree.proofs.PutLemmas.{put_same, put_front, put_back, put_length, put_each, put_none, put_rises, same_place, other_place}

-- a set's owner is in lower case
set_folded : (set : List Record) → IsRRset set → owner_of set ≡ fold_name (owner_of set)
set_folded [] h = absurd (omega (arith, h.some))
set_folded (r ∷ rs) h = (h.lawful 0 r (omega arith)).folded

-- where a record stands beside an owner and a type
abbrev record_beside : List (List ℕ) → ℕ → Record → Ordering
record_beside owner rtype r = ordering_then (canonical_cmp r.owner owner) (nat_cmp r.rtype rtype)

-- all sets of a key, which stand beside others as their owners do, with other sets for them
module _ (key : List (List ℕ)) (beside : List Record → Ordering) (others : List (List Record))
    (less : (pair : Filed) → IsFiled pair → canonical_cmp key pair.0 ≡ Greater → AllByRecursion (λ s. beside s ≡ Less) pair.1.items)
    (greater : (pair : Filed) → IsFiled pair → canonical_cmp key pair.0 ≡ Less → AllByRecursion (λ s. beside s ≡ Greater) pair.1.items) where
  abbrev put : List (List Record) → List (List Record)
  put sets = put_at beside others sets

  all_greater : (pairs : List Filed) → AllByRecursion IsFiled pairs → AllByRecursion (λ q. canonical_cmp key q.0 ≡ Less) pairs → AllByRecursion (λ s. beside s ≡ Greater) (sets_under pairs)
  all_greater [] h k = tt
  all_greater (pair ∷ pairs) h k =
      each_append (λ s. beside s ≡ Greater) pair.1.items (sets_under pairs) (greater pair h.0 k.0) (all_greater pairs h.1 k.1)

  -- what comes of the sets where the key's are replaced
  pub under_with : (pairs : List Filed) → AllByRecursion IsFiled pairs → IsAscending canonical_cmp pairs → (own : Own) → own.items ≡ put (items_of (value_at canonical_cmp key pairs)) → sets_under (pairs_with canonical_cmp key own pairs) ≡ put (sets_under pairs)
  under_with [] h a own e = append-nil own.items ∙ e
  under_with (pair ∷ pairs) h a own e = by (canonical_cmp key pair.0) refl (under_with pairs h.1 a.1 own)
    where
      by : (o : Ordering) → canonical_cmp key pair.0 ≡ o → (own.items ≡ put (items_of (value_at canonical_cmp key pairs)) → sets_under (pairs_with canonical_cmp key own pairs) ≡ put (sets_under pairs))
          → sets_under (pairs_with canonical_cmp key own (pair ∷ pairs)) ≡ put (sets_under (pair ∷ pairs))
      by Less f more =
          let at = less_here canonical_total key [] pair pairs a f in
          let is : own.items ≡ put [] = e ∙ ap (λ o. put (items_of (option_map (λ (p : Filed). p.1) o))) at.at in
          let behind = all_greater (pair ∷ pairs) h (f, each_weaker (λ q. canonical_cmp pair.0 q.0 ≡ Less) (λ q. canonical_cmp key q.0 ≡ Less) (λ q g. canonical_total.trans key pair.0 q.0 f g) pairs a.0) in
          ap sets_under (at.put own) ∙ ap (λ l. l ++ sets_under (pair ∷ pairs)) is ∙ sym (put_back beside others [] (sets_under (pair ∷ pairs)) behind)
      by Equal f more =
          let at = equal_here canonical_total key [] pair pairs a f in
          let is : own.items ≡ put pair.1.items = e ∙ ap (λ o. put (items_of (option_map (λ (p : Filed). p.1) o))) at.at in
          let behind = all_greater pairs h.1 (each_weaker (λ q. canonical_cmp pair.0 q.0 ≡ Less) (λ q. canonical_cmp key q.0 ≡ Less) (λ q g. canonical_total.congr key pair.0 q.0 f ∙ g) pairs a.0) in
          ap sets_under (at.put own) ∙ ap (λ l. l ++ sets_under pairs) is ∙ sym (put_back beside others pair.1.items (sets_under pairs) behind)
      by Greater f more =
          let at = greater_here canonical_total key [] pair pairs a f in
          let is : own.items ≡ put (items_of (value_at canonical_cmp key pairs)) = e ∙ ap (λ o. put (items_of (option_map (λ (p : Filed). p.1) o))) at.at in
          ap sets_under (at.put own) ∙ ap (λ l. pair.1.items ++ l) (more is) ∙ sym (put_front beside others pair.1.items (sets_under pairs) (less pair h.0 f))

  -- and where none of them is left
  pub under_without : (pairs : List Filed) → AllByRecursion IsFiled pairs → IsAscending canonical_cmp pairs → put (items_of (value_at canonical_cmp key pairs)) ≡ [] → sets_under (pairs_without canonical_cmp key pairs) ≡ put (sets_under pairs)
  under_without [] h a e = sym e
  under_without (pair ∷ pairs) h a e = by (canonical_cmp key pair.0) refl (under_without pairs h.1 a.1)
    where
      by : (o : Ordering) → canonical_cmp key pair.0 ≡ o → (put (items_of (value_at canonical_cmp key pairs)) ≡ [] → sets_under (pairs_without canonical_cmp key pairs) ≡ put (sets_under pairs))
          → sets_under (pairs_without canonical_cmp key (pair ∷ pairs)) ≡ put (sets_under (pair ∷ pairs))
      by Less f more =
          let at = less_here canonical_total key [] pair pairs a f in
          let is : [] ≡ put [] = sym e ∙ ap (λ o. put (items_of (option_map (λ (p : Filed). p.1) o))) at.at in
          let behind = all_greater (pair ∷ pairs) h (f, each_weaker (λ q. canonical_cmp pair.0 q.0 ≡ Less) (λ q. canonical_cmp key q.0 ≡ Less) (λ q g. canonical_total.trans key pair.0 q.0 f g) pairs a.0) in
          ap sets_under at.gone ∙ ap (λ l. l ++ sets_under (pair ∷ pairs)) is ∙ sym (put_back beside others [] (sets_under (pair ∷ pairs)) behind)
      by Equal f more =
          let at = equal_here canonical_total key [] pair pairs a f in
          let is : [] ≡ put pair.1.items = sym e ∙ ap (λ o. put (items_of (option_map (λ (p : Filed). p.1) o))) at.at in
          let behind = all_greater pairs h.1 (each_weaker (λ q. canonical_cmp pair.0 q.0 ≡ Less) (λ q. canonical_cmp key q.0 ≡ Less) (λ q g. canonical_total.congr key pair.0 q.0 f ∙ g) pairs a.0) in
          ap sets_under at.gone ∙ ap (λ l. l ++ sets_under pairs) is ∙ sym (put_back beside others pair.1.items (sets_under pairs) behind)
      by Greater f more =
          let at = greater_here canonical_total key [] pair pairs a f in
          let is : put (items_of (value_at canonical_cmp key pairs)) ≡ [] = ap (λ o. put (items_of (option_map (λ (p : Filed). p.1) o))) (sym at.at) ∙ e in
          ap sets_under at.gone ∙ ap (λ l. pair.1.items ++ l) (more is) ∙ sym (put_front beside others pair.1.items (sets_under pairs) (less pair h.0 f))

module _ (owner : List (List ℕ)) (rtype : ℕ) (others : List (List Record)) where
  abbrev key : List (List ℕ)
  key = fold_name owner

  abbrev put_there : List (List Record) → List (List Record)
  put_there sets = put_at (set_beside owner rtype) others sets

  -- as an owner stands beside the key, so do its sets
  pub turned : (name : List (List ℕ)) (o : Ordering) → canonical_cmp key name ≡ o → canonical_cmp name owner ≡ ordering_reverse o
  turned name o e = canonical_total.antisymm name owner ∙ ap ordering_reverse (sym (cmp_folded owner name) ∙ e)

  own_less : (pair : Filed) → IsFiled pair → canonical_cmp key pair.0 ≡ Greater → AllByRecursion (λ s. set_beside owner rtype s ≡ Less) pair.1.items
  own_less pair h e =
      each_weaker (λ s. owner_of s ≡ pair.0) (λ s. set_beside owner rtype s ≡ Less)
      (λ s f. ap (λ o. ordering_then o (nat_cmp (rtype_of s) rtype)) (ap (λ n. canonical_cmp n owner) f ∙ turned pair.0 Greater e)) pair.1.items h.own

  own_greater : (pair : Filed) → IsFiled pair → canonical_cmp key pair.0 ≡ Less → AllByRecursion (λ s. set_beside owner rtype s ≡ Greater) pair.1.items
  own_greater pair h e =
      each_weaker (λ s. owner_of s ≡ pair.0) (λ s. set_beside owner rtype s ≡ Greater)
      (λ s f. ap (λ o. ordering_then o (nat_cmp (rtype_of s) rtype)) (ap (λ n. canonical_cmp n owner) f ∙ turned pair.0 Less e)) pair.1.items h.own

  -- the owner's name and the key are sought alike
  pub value_key : (pairs : List Filed) → value_at canonical_cmp owner pairs ≡ value_at canonical_cmp key pairs
  value_key pairs = λ i. option_map (λ (p : Filed). p.1) (find (λ (pair : Filed). is_eq (sym (cmp_folded owner pair.0) i)) pairs)

  -- the records, and how many they are
  pub put_records : (sets : List (List Record)) → All IsRRset sets → records_in (put_there sets) ≡ put_at (record_beside owner rtype) (records_in others) (records_in sets)
  put_records sets h =
      let front = filter (λ s. is_lt (set_beside owner rtype s)) sets in
      let back = filter (λ s. is_gt (set_beside owner rtype s)) sets in
      flat_map-append (λ (s : List Record). s) (front ++ others) back ∙ ap (λ l. l ++ records_in back) (flat_map-append (λ (s : List Record). s) front others)
      ∙ (λ i. sym (filter_by_sets (λ o t. is_lt (ordering_then (canonical_cmp o owner) (nat_cmp t rtype))) sets h) i ++ records_in others ++ sym (filter_by_sets (λ o t. is_gt (ordering_then (canonical_cmp o owner) (nat_cmp t rtype))) sets h) i)

  pub length_put : (sets : List (List Record)) → All IsRRset sets → length (records_in (put_there sets)) + length (rrset_of (records_in sets) owner rtype) ≡ length (records_in sets) + length (records_in others)
  length_put sets h =
      let tie : filter (λ r. is_eq (record_beside owner rtype r)) (records_in sets) ≡ rrset_of (records_in sets) owner rtype =
      λ i. filter (λ (r : Record). same_place r.owner owner r.rtype rtype i) (records_in sets) in
      (λ i. length (put_records sets h i) + length (sym tie i)) ∙ put_length (record_beside owner rtype) (records_in others) (records_in sets)

  -- sets in order come in order again
  pub put_ascends : (sets : List (List Record)) → AreAscending sets → AllByRecursion IsRRset others → AllByRecursion (IsFor owner rtype) others → Rises IsSetBefore others → AreAscending (put_there sets)
  put_ascends sets rising lawful own_type one =
      let place : List Record = record { owner = owner; rtype = rtype; ttl = 0; rdata = [] } ∷ [] in
      let ties =
      each_weaker (IsFor owner rtype) (λ s. set_cmp s place ≡ Equal)
      (λ s h. (λ i. ordering_then (canonical_cmp (h.0 i) owner) (nat_cmp (h.1 i) rtype))
      ∙ (λ i. ordering_then ((cmp_folded owner owner ∙ tied_itself canonical_total owner) i) (tied_itself nat_cmp_total rtype i)))
      others own_type in
      record {
        each = All-from_recursion IsRRset (put_there sets) (put_each (set_beside owner rtype) others IsRRset sets (recursion_from_All IsRRset sets rising.each) lawful);
        ascending = pairs_from_rises IsSetBefore (put_there sets) (put_rises set_total place others sets (rises_from_pairs IsSetBefore sets rising.ascending) one ties);
      }

  module _ (pairs : List Filed) (filed : AreFiled pairs) where
    -- the sets of the owner
    pub own_sets : AllByRecursion (λ s. IsRRset s × (is_same (owner_of s) owner ≡ true)) (items_of (value_at canonical_cmp owner pairs))
    own_sets =
        let sets = sets_under pairs in
        subst (AllByRecursion (λ s. IsRRset s × (is_same (owner_of s) owner ≡ true))) (sets_at_key pairs filed owner)
        (each_both IsRRset (λ s. is_same (owner_of s) owner ≡ true) (filter (λ s. is_same (owner_of s) owner) sets)
        (each_filter (λ s. is_same (owner_of s) owner) IsRRset sets (recursion_from_All IsRRset sets filed.rising.each))
        (each_passes (λ s. is_same (owner_of s) owner) sets))

    by_type : put_at (λ s. nat_cmp (rtype_of s) rtype) others (items_of (value_at canonical_cmp owner pairs)) ≡ put_there (items_of (value_at canonical_cmp key pairs))
    by_type =
        put_same (λ s. nat_cmp (rtype_of s) rtype) (set_beside owner rtype) others (items_of (value_at canonical_cmp owner pairs))
        (each_weaker (λ s. IsRRset s × (is_same (owner_of s) owner ≡ true)) (λ s. nat_cmp (rtype_of s) rtype ≡ set_beside owner rtype s)
        (λ s h. ap (λ o. ordering_then o (nat_cmp (rtype_of s) rtype)) (sym (tie_from_same (owner_of s) owner h.1)))
        (items_of (value_at canonical_cmp owner pairs)) own_sets)
        ∙ ap (λ o. put_there (items_of o)) (value_key pairs)

    -- the set that is replaced
    pub replaced : (own : List (List Record)) → own ≡ items_of (value_at canonical_cmp owner pairs) → rrset_of (records_under pairs) owner rtype ≡ records_in (option_to_list (find (λ s. rtype_of s == rtype) own))
    replaced own e =
        rrset_at (sets_under pairs) filed.rising owner rtype ∙ ap (λ l. records_in (option_to_list (find (λ s. rtype_of s == rtype) l))) (sets_at_key pairs filed owner ∙ sym e)

    module _ (lawful : AllByRecursion IsRRset others) (own_type : AllByRecursion (IsFor owner rtype) others) (one : Rises IsSetBefore others) where
      -- the owners are in order again, with these sets
      module _ (own : Own) (is : own.items ≡ put_at (λ s. nat_cmp (rtype_of s) rtype) others (items_of (value_at canonical_cmp owner pairs))) where
        pub sets_with : sets_under (pairs_with canonical_cmp key own pairs) ≡ put_there (sets_under pairs)
        sets_with = under_with key (set_beside owner rtype) others own_less own_greater pairs filed.each filed.ascends own (is ∙ by_type)

        own_key : AllByRecursion (λ s. owner_of s ≡ key) own.items
        own_key =
            subst (AllByRecursion (λ s. owner_of s ≡ key)) (sym is)
            (put_each (λ s. nat_cmp (rtype_of s) rtype) others (λ s. owner_of s ≡ key) (items_of (value_at canonical_cmp owner pairs))
            (each_weaker (λ s. IsRRset s × (is_same (owner_of s) owner ≡ true)) (λ s. owner_of s ≡ key) (λ s h. set_folded s h.0 ∙ folds_from_same (owner_of s) owner h.1) (items_of (value_at canonical_cmp owner pairs)) own_sets)
            (each_weaker (IsFor owner rtype) (λ s. owner_of s ≡ key) (λ s h. h.0) others own_type))

        pub filed_with : 0 < length own.items → AreFiled (pairs_with canonical_cmp key own pairs)
        filed_with some = record {
          rising = subst AreAscending (sym sets_with) (put_ascends (sets_under pairs) filed.rising lawful own_type one);
          each = each_append IsFiled (pairs_below canonical_cmp key pairs) ((key, own) ∷ pairs_above canonical_cmp key pairs)
              (each_filter (λ pair. is_gt (canonical_cmp key pair.0)) IsFiled pairs filed.each)
              (record { some = some; own = own_key }, each_filter (λ pair. is_lt (canonical_cmp key pair.0)) IsFiled pairs filed.each);
          ascends = with_ascends canonical_cmp canonical_total key own pairs filed.ascends;
        }

        none : length own.items ≡ 0 → own.items ≡ []
        none e = by own.items e
          where
            by : (l : List (List Record)) → length l ≡ 0 → l ≡ []
            by [] f = refl
            by (x ∷ xs) f = absurd (omega arith)

        pub sets_without : length own.items ≡ 0 → sets_under (pairs_without canonical_cmp key pairs) ≡ put_there (sets_under pairs)
        sets_without e = under_without key (set_beside owner rtype) others own_less own_greater pairs filed.each filed.ascends (sym by_type ∙ sym is ∙ none e)

        pub filed_without : length own.items ≡ 0 → AreFiled (pairs_without canonical_cmp key pairs)
        filed_without e = record {
          rising = subst AreAscending (sym (sets_without e)) (put_ascends (sets_under pairs) filed.rising lawful own_type one);
          each = each_filter (λ pair. is_ne (canonical_cmp key pair.0)) IsFiled pairs filed.each;
          ascends = filter_ascends canonical_cmp (λ pair. is_ne (canonical_cmp key pair.0)) pairs filed.ascends;
        }

-- what a change makes of the records, by the sets
pub put_is : (sets : List (List Record)) → All IsRRset sets → (set : List Record) → records_in (put_at (set_beside (owner_of set) (rtype_of set)) (set ∷ []) sets) ≡ with_rrset (records_in sets) set
put_is sets h set =
    put_records (owner_of set) (rtype_of set) (set ∷ []) sets h ∙ ap (λ l. put_at (record_beside (owner_of set) (rtype_of set)) l (records_in sets)) (append-nil set)

pub remove_is : (sets : List (List Record)) → AreAscending sets → (owner : List (List ℕ)) (rtype : ℕ) → records_in (put_at (set_beside owner rtype) [] sets) ≡ without_rrset (records_in sets) owner rtype
remove_is sets h owner rtype =
    let place : List Record = record { owner = owner; rtype = rtype; ttl = 0; rdata = [] } ∷ [] in
    ap records_in (sym (put_none set_total place sets (rises_from_pairs IsSetBefore sets h.ascending)))
    ∙ (λ i. records_in (filter (λ (s : List Record). (other_place (set_beside owner rtype s) ∙ ap not (same_place (owner_of s) owner (rtype_of s) rtype)) i) sets))
    ∙ sym (filter_by_sets (λ o t. not (is_same o owner && t == rtype)) sets h.each)

-- one set, or none, is in order
pub one_rises : (o : Option (List Record)) → Rises IsSetBefore (option_to_list o)
one_rises None = tt
one_rises (Some set) = (tt, tt)

pub one_each : (P : List Record → Type 0) (o : Option (List Record)) → IfSome o P → AllByRecursion P (option_to_list o)
one_each P None h = tt
one_each P (Some set) h = (h, tt)

-- a draft with a set, or none, in place of that of an owner and a type
module _ (owner : List (List ℕ)) (rtype : ℕ) (pairs : List Filed) (count : ℕ) (draft : IsDraft pairs count) (old : Option (List Record)) (was : old ≡ find (λ s. rtype_of s == rtype) (items_of (value_at canonical_cmp owner pairs))) where
  old_is : rrset_of (records_under pairs) owner rtype ≡ records_in (option_to_list old)
  old_is = replaced owner rtype [] pairs draft.filed (items_of (value_at canonical_cmp owner pairs)) refl ∙ ap (λ o. records_in (option_to_list o)) (sym was)

  -- no more records go than there are
  pub few_go : length (records_in (option_to_list old)) ≤ count
  few_go =
      let whole = length_put owner rtype [] (sets_under pairs) draft.filed.rising.each in
      omega (arith, whole, ap length old_is, draft.counted)

  module _ (new : Option (List Record)) (lawful : IfSome new IsRRset) (fits : IfSome new (IsFor owner rtype))
      (own : Own) (is : own.items ≡ put_at (λ s. nat_cmp (rtype_of s) rtype) (option_to_list new) (items_of (value_at canonical_cmp owner pairs)))
      (next : List Filed) (kept : 0 < length own.items → next ≡ pairs_with canonical_cmp (fold_name owner) own pairs) (gone : length own.items ≡ 0 → next ≡ pairs_without canonical_cmp (fold_name owner) pairs) where
    abbrev others : List (List Record)
    others = option_to_list new

    both : AreFiled next × (sets_under next ≡ put_there owner rtype others (sets_under pairs))
    both =
        let each = one_each IsRRset new lawful in
        let fit = one_each (IsFor owner rtype) new fits in
        let one = one_rises new in
        ⊎_elim
        (λ some. (
          subst AreFiled (sym (kept some)) (filed_with owner rtype others pairs draft.filed each fit one own is some),
          ap sets_under (kept some) ∙ sets_with owner rtype others pairs draft.filed each fit one own is,
        ))
        (λ few. let none : length own.items ≡ 0 = omega arith in (
          subst AreFiled (sym (gone none)) (filed_without owner rtype others pairs draft.filed each fit one own is none),
          ap sets_under (gone none) ∙ sets_without owner rtype others pairs draft.filed each fit one own is none,
        ))
        (cases_lt 0 (length own.items))

    pub next_sets : sets_under next ≡ put_at (set_beside owner rtype) (option_to_list new) (sets_under pairs)
    next_sets = both.1

    pub next_draft : (more : ℕ) → more + length (records_in (option_to_list old)) ≡ count + length (records_in (option_to_list new)) → IsDraft next more
    next_draft more e = record {
      filed = both.0;
      counted = omega (arith, e, ap length old_is, draft.counted, length_put owner rtype others (sets_under pairs) draft.filed.rising.each, ap (λ l. length (records_in l)) both.1);
    }

-- what follows from what a call gives
pub weaker_if_ok : {A E : Type 0} {P Q : A → Type 0} (r : Result A E) → ((x : A) → P x → Q x) → IfOk r P → IfOk r Q
weaker_if_ok (Ok x) f h = f x h
weaker_if_ok (Err e) f h = tt
