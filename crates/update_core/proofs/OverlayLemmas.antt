-- A zone with other sets for those of some owners: what stands at each name, and what a change of one owner makes of it.
use Rattle.std.proofs.Common.{◌≡◌, ◌+◌, Bool, true, false, cond, List, [], ◌∷◌, ◌++◌, length, filter, Option, None, Some, refl, sym, ap, subst, ◌∙◌, append-nil, arith}
use Rattle.std.specs.Prelude.{Contains, Result, Ok, Err, IfOk, OnOk}
use Rattle.std.specs.Global.{Vec}
use Rattle.std.specs.List.{AllByRecursion}
use Rattle.std.specs.Option.{option_map}
use Rattle.std.specs.List.Sorted.{IsStrictlySortedBy}
use Rattle.std.specs.Map.{keys_of, lookup, remove_entry}
use Rattle.std.specs.BTreeMap.{is_at, insert_entry}
use Rattle.std.specs.Ordering.{is_lt, is_gt, is_eq, nat_cmp, ordering_then, ordering_reverse, match_ordering}
use Rattle.std.specs.Cmp.Lexicographic.{slice_cmp}
use Rattle.std.specs.declared.cmp.Ordering.{Ordering}
use Rattle.std.specs.declared.cmp.Ordering.TheVariants.{Less, Equal, Greater}
use Rattle.std.proofs.lemmas.Cmp.{tied_itself}
use Rattle.std.proofs.lemmas.List.Elements.{recursion_from_All, All-from_recursion, filter-append}
use Rattle.dns_name.specs.Name.{Name, is_same, canonical_cmp, fold_name}
use Rattle.dns_name.specs.Order.{is_same_tied}
use Rattle.dns_name.proofs.StoredLemmas.{cmp_folded}
use Rattle.dns_rdata.specs.Record.{Record, owner_of}
use Rattle.zone_tree.specs.Zone.{IsBefore, stands_at, rrsets_of}
use Rattle.zone_tree.specs.Sets.{records_in, IsRRset, IsOf, AreWhole}
use Rattle.zone_tree.specs.Filed.{Owned}
use Rattle.zone_tree.specs.Edit.{owner_beside, with_owner, with_owners, AreOwn}
use Rattle.zone_tree.specs.declared.change.Change.{Change}
use Rattle.zone_tree.proofs.NameOrder.{canonical_total, tie_from_same, same_from_tie, same_from_folds, folds_from_same}
use Rattle.zone_tree.proofs.Rising.{each_weaker, each_joined, filter_alike, Rises, rises_from_pairs}
use Rattle.zone_tree.proofs.ZoneLemmas.{records_ascend}
use Rattle.zone_tree.proofs.FiledLemmas.{ties}
use Rattle.zone_tree.proofs.LawLemmas.{same_lists}
use Rattle.zone_tree.proofs.PutLemmas.{put_length, put_between}
use Rattle.zone_tree.proofs.OwnLemmas.{name_low, name_over, name_high}
use Rattle.update_core.specs.Tagged.{tagged_cmp, same_at}
use Rattle.update_core.specs.Overlay.{at_owner, own_at, own_of, made_of, all_of, AllOwn, IsLastOwn, IsChangeAt, changed_sets, edited_sets}
use Rattle.update_core.proofs.AfterLemmas.{kept_contains, contains_kept}
use Rattle.update_core.proofs.TaggedLemmas.{same_lookup}
use Rattle.update_core.proofs.OwnSets.{passes, swapped, beside_folded, own_same, changed_own}

-- a filter that is decided where another passes
pub decided : (p q : Record → Bool) (b : Bool) → ((r : Record) → q r ≡ true → p r ≡ b) → (zs : List Record) → filter q (filter p zs) ≡ cond b (filter q zs) []
decided p q b same zs = swapped q p zs ∙ filter_alike p b (filter q zs) (each_weaker (λ r. q r ≡ true) (λ r. p r ≡ b) same (filter q zs) (passes q zs))

-- the records of an owner's sets
pub records_own : (owner : Name) (sets : List (List Record)) → AreOwn owner sets → AllByRecursion (λ r. r.owner ≡ fold_name owner) (records_in sets)
records_own owner sets h = each_joined (λ (r : Record). r.owner ≡ fold_name owner) sets (by sets h.own (recursion_from_All IsRRset sets h.rising.each))
  where
    by : (sets : List (List Record)) → AllByRecursion (λ s. owner_of s ≡ fold_name owner) sets → AllByRecursion IsRRset sets → AllByRecursion (AllByRecursion (λ r. r.owner ≡ fold_name owner)) sets
    by [] own each = tt
    by (s ∷ sets) own each = (each_weaker (IsOf s) (λ r. r.owner ≡ fold_name owner) (λ r of. of.owner ∙ own.0) s (recursion_from_All (IsOf s) s each.0.shared), by sets own.1 each.1)

module _ (owner : Name) (recs : List Record) (mine : AllByRecursion (λ r. r.owner ≡ fold_name owner) recs) (zone : List Record) where
  -- what stands at a name once an owner has other records
  module _ (name : Name) where
    cmp_at : (r : Record) → stands_at name r ≡ true → canonical_cmp r.owner owner ≡ canonical_cmp name owner
    cmp_at r e = canonical_total.congr r.owner name owner (tie_from_same r.owner name e)

    here : filter (stands_at name) recs ≡ cond (is_eq (canonical_cmp name owner)) recs []
    here =
        filter_alike (stands_at name) (is_eq (canonical_cmp name owner)) recs
        (each_weaker (λ r. r.owner ≡ fold_name owner) (λ r. stands_at name r ≡ is_eq (canonical_cmp name owner))
        (λ r e. ap (λ n. is_same n name) e ∙ sym (ties name (fold_name owner)) ∙ ap is_eq (beside_folded name owner)) recs mine)

    pub at_name : rrsets_of (with_owner owner recs zone) name ≡ cond (is_eq (canonical_cmp name owner)) recs (rrsets_of zone name)
    at_name =
        let low = filter (λ r. is_lt (owner_beside owner r)) zone in
        let high = filter (λ r. is_gt (owner_beside owner r)) zone in
        filter-append (stands_at name) (low ++ recs) high ∙ ap (λ l. l ++ filter (stands_at name) high) (filter-append (stands_at name) low recs)
        ∙ (λ i. decided (λ r. is_lt (owner_beside owner r)) (stands_at name) (is_lt (canonical_cmp name owner)) (λ r e. ap is_lt (cmp_at r e)) zone i ++ here i
        ++ decided (λ r. is_gt (owner_beside owner r)) (stands_at name) (is_gt (canonical_cmp name owner)) (λ r e. ap is_gt (cmp_at r e)) zone i)
        ∙ by (canonical_cmp name owner)
      where
        by : (o : Ordering) → cond (is_lt o) (rrsets_of zone name) [] ++ cond (is_eq o) recs [] ++ cond (is_gt o) (rrsets_of zone name) [] ≡ cond (is_eq o) recs (rrsets_of zone name)
        by Less = append-nil (rrsets_of zone name ++ []) ∙ append-nil (rrsets_of zone name)
        by Equal = append-nil recs
        by Greater = refl

  -- and the records are in order
  before : (r s : Record) → canonical_cmp r.owner s.owner ≡ Less → IsBefore r s
  before r s e = ap (λ o. is_lt (ordering_then o (ordering_then (nat_cmp r.rtype s.rtype) (slice_cmp nat_cmp r.rdata s.rdata)))) e

  pub owner_rises : Rises IsBefore zone → Rises IsBefore recs → Rises IsBefore (with_owner owner recs zone)
  owner_rises h k =
      put_between IsBefore (owner_beside owner)
      (λ r s l e. before r s (name_low r.owner s.owner owner l e)) (λ r s l g. before r s (name_over r.owner s.owner owner l g)) (λ r s e g. before r s (name_high r.owner s.owner owner e g))
      recs zone h k
      (each_weaker (λ r. r.owner ≡ fold_name owner) (λ r. owner_beside owner r ≡ Equal) (λ r e. ap (λ n. canonical_cmp n owner) e ∙ cmp_folded owner owner ∙ tied_itself canonical_total owner) recs mine)

  -- and so many
  pub owner_length : length (with_owner owner recs zone) + length (rrsets_of zone owner) ≡ length zone + length recs
  owner_length = (λ i. length (with_owner owner recs zone) + length (filter (λ (r : Record). is_same_tied r.owner owner i) zone)) ∙ put_length (owner_beside owner) recs zone

-- none of the owners behind one that ties with a name ties with it
absent : (name owner : Name) (owned : List Owned) → canonical_cmp name owner ≡ Equal → AllByRecursion (λ k. tagged_cmp owner k ≡ Less) (keys_of owned) → own_at name owned ≡ None
absent name owner [] e h = refl
absent name owner (own ∷ owned) e h =
    let apart : is_eq (canonical_cmp name own.0) ≡ false = ap is_eq (canonical_total.congr name owner own.0 e) ∙ sym (same_at owner own.0) ∙ ap is_eq h.0 in
    ap (λ b. cond b (Some own.1) (own_at name owned)) apart ∙ absent name owner owned e h.1

-- what stands at a name in the zone with all of them
pub stands_there : (name : Name) (zone : List Record) (owned : List Owned) → AllOwn owned → IsStrictlySortedBy tagged_cmp (keys_of owned) → rrsets_of (with_owners zone owned) name ≡ at_owner (rrsets_of zone name) (own_at name owned)
unfolding IsStrictlySortedBy
stands_there name zone [] h s = refl
stands_there name zone (own ∷ owned) h s =
    let recs = records_in own.1.items in
    stands_there name (with_owner own.0 recs zone) owned h.1 s.1 ∙ by (canonical_cmp name own.0) refl
  where
    after : List Record
    after = rrsets_of (with_owner own.0 (records_in own.1.items) zone) name

    is : (o : Ordering) → canonical_cmp name own.0 ≡ o → after ≡ cond (is_eq o) (records_in own.1.items) (rrsets_of zone name)
    is o e = at_name own.0 (records_in own.1.items) (records_own own.0 own.1.items h.0) zone name ∙ ap (λ o. cond (is_eq o) (records_in own.1.items) (rrsets_of zone name)) e

    by : (o : Ordering) → canonical_cmp name own.0 ≡ o → at_owner after (own_at name owned) ≡ at_owner (rrsets_of zone name) (cond (is_eq o) (Some own.1) (own_at name owned))
    by Less e = ap (λ z. at_owner z (own_at name owned)) (is Less e)
    by Equal e = ap (at_owner after) (absent name own.0 owned e s.0) ∙ is Equal e
    by Greater e = ap (λ z. at_owner z (own_at name owned)) (is Greater e)

pub owners_rise : (zone : List Record) (owned : List Owned) → AllOwn owned → Rises IsBefore zone → Rises IsBefore (with_owners zone owned)
owners_rise zone [] h k = k
owners_rise zone (own ∷ owned) h k =
    let recs = records_in own.1.items in
    owners_rise (with_owner own.0 recs zone) owned h.1
    (owner_rises own.0 recs (records_own own.0 own.1.items h.0) zone k (rises_from_pairs IsBefore recs (records_ascend own.1.items h.0.rising)))

-- and with the sets of the owner that was changed last
pub stands_now : (name : Name) (zone : List Record) (last : Option Owned) (others : List Owned) → IsLastOwn last → AllOwn others → IsStrictlySortedBy tagged_cmp (keys_of others)
    → rrsets_of (made_of zone last others) name ≡ at_owner (rrsets_of zone name) (own_of name last others)
stands_now name zone None others own each ordered = stands_there name zone others each ordered
stands_now name zone (Some last) others own each ordered =
    at_name last.0 (records_in last.1.items) (records_own last.0 last.1.items own) (with_owners zone others) name ∙ by (is_eq (canonical_cmp name last.0))
  where
    by : (b : Bool) → cond b (records_in last.1.items) (rrsets_of (with_owners zone others) name) ≡ at_owner (rrsets_of zone name) (cond b (Some last.1) (own_at name others))
    by true = refl
    by false = stands_there name zone others each ordered

pub now_rises : (zone : List Record) (last : Option Owned) (others : List Owned) → IsLastOwn last → AllOwn others → Rises IsBefore zone → Rises IsBefore (made_of zone last others)
now_rises zone None others own each h = owners_rise zone others each h
now_rises zone (Some last) others own each h =
    let recs = records_in last.1.items in
    owner_rises last.0 recs (records_own last.0 last.1.items own) (with_owners zone others) (owners_rise zone others each h) (rises_from_pairs IsBefore recs (records_ascend last.1.items own.rising))

-- records in order that are the same at each name
same_from : (xs ys : List Record) → ((name : Name) → rrsets_of xs name ≡ rrsets_of ys name) → (r : Record) → Contains xs r → Contains ys r
same_from xs ys same r m =
    kept_contains (stands_at r.owner) ys r (subst (λ zs. Contains zs r) (same r.owner) (contains_kept (stands_at r.owner) xs r (same_from_folds r.owner r.owner refl) m))

pub same_by_owners : (xs ys : List Record) → Rises IsBefore xs → Rises IsBefore ys → ((name : Name) → rrsets_of xs name ≡ rrsets_of ys name) → xs ≡ ys
same_by_owners xs ys h k same = same_lists xs ys h k (λ r. (same_from xs ys same r, same_from ys xs (λ name. sym (same name)) r))

-- the same name, spelt otherwise
pub same_there : (zone : List Record) (name owner : Name) → canonical_cmp name owner ≡ Equal → rrsets_of zone owner ≡ rrsets_of zone name
same_there zone name owner e = λ i. filter (λ (s : Record). same s i) zone
  where
    same : (s : Record) → is_same s.owner owner ≡ is_same s.owner name
    same s = is_same_tied s.owner owner ∙ ap is_eq (canonical_total.antisymm s.owner owner ∙ ap ordering_reverse (sym (canonical_total.congr name owner s.owner e)) ∙ sym (canonical_total.antisymm s.owner name)) ∙ sym (is_same_tied s.owner name)

-- the sets of an owner that is found are its own
pub found_own : (owner : Name) (owned : List Owned) (own : Vec (List Record)) → AllOwn owned → own_at owner owned ≡ Some own → AreOwn owner own.items
found_own owner [] own h e = cc
found_own owner (first ∷ owned) own h e = by (canonical_cmp owner first.0) refl (found_own owner owned own h.1) e
  where
    some : (x y : Vec (List Record)) → Some x ≡ Some y → x ≡ y
    some x y e = ap (λ o. at_some o) e
      where
        at_some : Option (Vec (List Record)) → Vec (List Record)
        at_some None = x
        at_some (Some z) = z

    by : (o : Ordering) → canonical_cmp owner first.0 ≡ o → (own_at owner owned ≡ Some own → AreOwn owner own.items) → cond (is_eq o) (Some first.1) (own_at owner owned) ≡ Some own → AreOwn owner own.items
    by Less f more e = more e
    by Greater f more e = more e
    by Equal f more e =
        let fold = folds_from_same owner first.0 (same_from_tie owner first.0 f) in
        subst (λ (v : Vec (List Record)). AreOwn owner v.items) (some first.1 own e)
        (record { rising = h.0.rising; own = each_weaker (λ s. owner_of s ≡ fold_name first.0) (λ s. owner_of s ≡ fold_name owner) (λ s k. k ∙ sym fold) first.1.items h.0.own })

pub found_now : (owner : Name) (last : Option Owned) (others : List Owned) (own : Vec (List Record)) → IsLastOwn last → AllOwn others → own_of owner last others ≡ Some own → AreOwn owner own.items
found_now owner None others own mine each e = found_own owner others own each e
found_now owner (Some last) others own mine each e = found_own owner (last ∷ others) own (mine, each) e

-- and so are the sets that the zone has at it
behind_each : (P : Record → Type 0) (rs rest : List Record) → AllByRecursion P (rs ++ rest) → AllByRecursion P rest
behind_each P [] rest h = h
behind_each P (r ∷ rs) rest h = behind_each P rs rest h.1

owners_are : (owner : Name) (sets : List (List Record)) → AllByRecursion IsRRset sets → AllByRecursion (λ r. stands_at owner r ≡ true) (records_in sets) → AllByRecursion (λ s. owner_of s ≡ fold_name owner) sets
owners_are owner [] h k = tt
owners_are owner ([] ∷ sets) h k = absurd (omega (arith, h.0.some))
owners_are owner ((r ∷ rs) ∷ sets) h k =
    ((h.0.lawful 0 r (omega arith)).folded ∙ folds_from_same r.owner owner k.0, owners_are owner sets h.1 (behind_each (λ r. stands_at owner r ≡ true) (r ∷ rs) (records_in sets) k))

pub copied_own : (zone : List Record) (owner : Name) (sets : List (List Record)) → AllByRecursion IsRRset sets → records_in sets ≡ rrsets_of zone owner → AreWhole zone sets → AreOwn owner sets
copied_own zone owner sets each is whole = record {
  rising = record { each = All-from_recursion IsRRset sets each; ascending = whole.ascending };
  own = owners_are owner sets each (subst (AllByRecursion (λ r. stands_at owner r ≡ true)) (sym is) (passes (stands_at owner) zone));
}

pub copies_own : {E : Type 0} (zone : List Record) (owner : Name) (sets : List (List Record)) (r : Result (Vec (List Record)) E) → IfOk r (λ own. own.items ≡ sets) → AllByRecursion IsRRset sets → records_in sets ≡ rrsets_of zone owner → AreWhole zone sets
    → IfOk r (λ own. AreOwn owner own.items)
copies_own zone owner sets (Ok own) is each at whole = subst (AreOwn owner) (sym is) (copied_own zone owner sets each at whole)
copies_own zone owner sets (Err e) is each at whole = tt

-- owners with one less, and one more
pub each_removed : (owner : Name) (owned : List Owned) → AllOwn owned → AllOwn (remove_entry (is_at (tagged_cmp owner)) owned)
each_removed owner [] h = tt
each_removed owner (own ∷ owned) h = by (is_eq (tagged_cmp owner own.0)) (each_removed owner owned h.1)
  where
    by : (b : Bool) → AllOwn (remove_entry (is_at (tagged_cmp owner)) owned) → AllOwn (cond b owned (own ∷ remove_entry (is_at (tagged_cmp owner)) owned))
    by true more = h.1
    by false more = (h.0, more)

pub each_inserted : (owner : Name) (own : Vec (List Record)) (owned : List Owned) → AreOwn owner own.items → AllOwn owned → AllOwn (insert_entry tagged_cmp owned owner own)
each_inserted owner own [] mine h = (mine, tt)
each_inserted owner own (first ∷ owned) mine h = by (tagged_cmp owner first.0) refl (each_inserted owner own owned mine h.1)
  where
    by : (o : Ordering) → tagged_cmp owner first.0 ≡ o → AllOwn (insert_entry tagged_cmp owned owner own) → AllOwn (match_ordering o ((owner, own) ∷ first ∷ owned) ((first.0, own) ∷ owned) (first ∷ insert_entry tagged_cmp owned owner own))
    by Less e more = (mine, h)
    by Equal e more =
        let fold = folds_from_same owner first.0 (is_same_tied owner first.0 ∙ sym (same_at owner first.0) ∙ ap is_eq e) in
        (record { rising = mine.rising; own = each_weaker (λ s. owner_of s ≡ fold_name owner) (λ s. owner_of s ≡ fold_name first.0) (λ s k. k ∙ fold) own.items mine.own }, h.1)
    by Greater e more = (h.0, more)

-- records that differ from others at one owner alone, where these are its own
module _ (cur next : List Record) (owner : Name) (sets : List (List Record)) (mine : AreOwn owner sets) (is : records_in sets ≡ rrsets_of next owner)
    (h : Rises IsBefore cur) (k : Rises IsBefore next) (beside : (name : Name) → is_eq (canonical_cmp name owner) ≡ false → rrsets_of next name ≡ rrsets_of cur name) where
  next_at : (name : Name) → rrsets_of next name ≡ cond (is_eq (canonical_cmp name owner)) (records_in sets) (rrsets_of cur name)
  next_at name = by (canonical_cmp name owner) refl
    where
      by : (o : Ordering) → canonical_cmp name owner ≡ o → rrsets_of next name ≡ cond (is_eq o) (records_in sets) (rrsets_of cur name)
      by Less e = beside name (ap is_eq e)
      by Equal e = sym (is ∙ same_there next name owner e)
      by Greater e = beside name (ap is_eq e)

  pub next_is : next ≡ with_owner owner (records_in sets) cur
  next_is =
      let recs = records_in sets in
      let own = records_own owner sets mine in
      same_by_owners next (with_owner owner recs cur) k (owner_rises owner recs own cur h (rises_from_pairs IsBefore recs (records_ascend sets mine.rising)))
      (λ name. next_at name ∙ sym (at_name owner recs own cur name))

  pub next_length : length next + length (rrsets_of cur owner) ≡ length cur + length (records_in sets)
  next_length = ap (λ (zs : List Record). length zs + length (rrsets_of cur owner)) next_is ∙ owner_length owner (records_in sets) (records_own owner sets mine) cur

  -- so is a zone that has these sets for that owner's
  pub overlaid : (zone made : List Record) (f g : Name → Option (Vec (List Record))) → ((name : Name) → rrsets_of cur name ≡ at_owner (rrsets_of zone name) (f name)) → Rises IsBefore made
      → ((name : Name) → rrsets_of made name ≡ at_owner (rrsets_of zone name) (g name)) → (own : Vec (List Record)) → own.items ≡ sets → ((q : Name) → g q ≡ cond (is_at (canonical_cmp owner) q) (Some own) (f q)) → made ≡ next
  overlaid zone made f g was rise is_present own items updates =
      same_by_owners made next rise k
      (λ name. is_present name ∙ ap (at_owner (rrsets_of zone name)) (updates name) ∙ by name (canonical_cmp owner name) refl ∙ sym (next_at name))
    where
      turned : (name : Name) (o : Ordering) → canonical_cmp owner name ≡ o → canonical_cmp name owner ≡ ordering_reverse o
      turned name o e = canonical_total.antisymm name owner ∙ ap ordering_reverse e

      by : (name : Name) (o : Ordering) → canonical_cmp owner name ≡ o → at_owner (rrsets_of zone name) (cond (is_eq o) (Some own) (f name)) ≡ cond (is_eq (canonical_cmp name owner)) (records_in sets) (rrsets_of cur name)
      by name Less e = sym (was name) ∙ ap (λ o. cond (is_eq o) (records_in sets) (rrsets_of cur name)) (sym (turned name Less e))
      by name Equal e = ap records_in items ∙ ap (λ o. cond (is_eq o) (records_in sets) (rrsets_of cur name)) (sym (turned name Equal e))
      by name Greater e = sym (was name) ∙ ap (λ o. cond (is_eq o) (records_in sets) (rrsets_of cur name)) (sym (turned name Greater e))

-- an owner's sets stay its own where one of them is changed
pub own_changed : (owner : Name) (own : List (List Record)) → AreOwn owner own → (change : Change) → IsChangeAt owner change → AreOwn owner (changed_sets own change)
own_changed owner own mine change at =
    let all = records_own owner own mine in
    let is = filter_alike (stands_at owner) true (records_in own) (each_weaker (λ r. r.owner ≡ fold_name owner) (λ r. stands_at owner r ≡ true) (λ r e. own_same owner r.owner e) (records_in own) all) in
    (changed_own owner (records_in own) own mine (sym is) change at).0

pub edited_sets-last : (own : List (List Record)) (front : List Change) (last : Change) → edited_sets own (front ++ last ∷ []) ≡ changed_sets (edited_sets own front) last
edited_sets-last own [] last = refl
edited_sets-last own (change ∷ front) last = edited_sets-last (changed_sets own change) front last

-- what is found once an owner's sets are those of the owner that was changed last
pub turned_eq : (name owner : Name) → is_eq (canonical_cmp name owner) ≡ is_eq (canonical_cmp owner name)
turned_eq name owner = ap is_eq (canonical_total.antisymm name owner) ∙ by (canonical_cmp owner name)
  where
    by : (o : Ordering) → is_eq (ordering_reverse o) ≡ is_eq o
    by Less = refl
    by Equal = refl
    by Greater = refl

pub updated : (key owner : Name) → key ≡ fold_name owner → (given : Vec (List Record)) (others : List Owned) (f : Name → Option (Vec (List Record)))
    → ((name : Name) → is_at (canonical_cmp key) name ≡ false → own_at name others ≡ f name) → (q : Name) → own_of q (Some (key, given)) others ≡ cond (is_at (canonical_cmp owner) q) (Some given) (f q)
updated key owner fold given others f apart q = by (is_eq (canonical_cmp q key)) refl
  where
    same : is_eq (canonical_cmp key q) ≡ is_eq (canonical_cmp owner q)
    same = ap (λ k. is_eq (canonical_cmp k q)) fold ∙ ap is_eq (cmp_folded owner q)

    by : (b : Bool) → is_eq (canonical_cmp q key) ≡ b → cond b (Some given) (own_at q others) ≡ cond (is_eq (canonical_cmp owner q)) (Some given) (f q)
    by true e = ap (λ b. cond b (Some given) (f q)) (sym e ∙ turned_eq q key ∙ same)
    by false e = apart q (sym (turned_eq q key) ∙ e) ∙ ap (λ b. cond b (Some given) (f q)) (sym e ∙ turned_eq q key ∙ same)

-- a last owner that is put beside the others is found as it was
pub put_found : (last : Owned) (others after : List Owned) → ((name : Name) → own_at name after ≡ cond (is_at (canonical_cmp last.0) name) (Some last.1) (own_at name others)) → (name : Name) → own_at name after ≡ own_of name (Some last) others
put_found last others after puts name = puts name ∙ ap (λ b. cond b (Some last.1) (own_at name others)) (sym (turned_eq name last.0))

-- an owner that is taken out leaves the others as they were
pub other_stays : (owner name : Name) (before after : List Owned) → lookup (is_at (tagged_cmp name)) after ≡ cond (is_at (tagged_cmp owner) name) None (lookup (is_at (tagged_cmp name)) before) → is_at (canonical_cmp owner) name ≡ false → own_at name after ≡ own_at name before
other_stays owner name before after updates apart =
    sym (same_lookup name after) ∙ updates ∙ ap (λ b. cond b None (lookup (is_at (tagged_cmp name)) before)) (same_at owner name ∙ apart) ∙ same_lookup name before

-- where it is the one that is sought, its sets are that owner's, and the others are as they were
pub last_own : (owner : Name) (last : Owned) → AreOwn last.0 last.1.items → is_same last.0 owner ≡ true → AreOwn owner last.1.items
last_own owner last mine same =
    let fold = folds_from_same last.0 owner same in
    record { rising = mine.rising; own = each_weaker (λ s. owner_of s ≡ fold_name last.0) (λ s. owner_of s ≡ fold_name owner) (λ s k. k ∙ fold) last.1.items mine.own }

pub last_found : (owner : Name) (last : Owned) (others : List Owned) → is_same last.0 owner ≡ true → own_of owner (Some last) others ≡ Some last.1
last_found owner last others same = ap (λ b. cond b (Some last.1) (own_at owner others)) (turned_eq owner last.0 ∙ ap is_eq (tie_from_same last.0 owner same))

pub last_missed : (owner : Name) (last : Owned) → is_same last.0 owner ≡ false → own_of owner (Some last) [] ≡ None
last_missed owner last apart = ap (λ b. cond b (Some last.1) (own_at owner [])) (turned_eq owner last.0 ∙ sym (is_same_tied last.0 owner) ∙ apart)

pub last_apart : (owner : Name) (last : Owned) (others : List Owned) → is_same last.0 owner ≡ true → (name : Name) → is_at (canonical_cmp owner) name ≡ false → own_at name others ≡ own_of name (Some last) others
last_apart owner last others same name apart =
    sym (ap (λ b. cond b (Some last.1) (own_at name others)) (turned_eq name last.0 ∙ ap is_eq (canonical_total.congr last.0 owner name (tie_from_same last.0 owner same)) ∙ apart))

-- what is found among the last alone
pub found_last : (owner : Name) (last : Option Owned) (others : List Owned) (own : Vec (List Record)) → own_of owner last [] ≡ Some own → own_of owner last others ≡ Some own
found_last owner None others own e = absurd (cc)
found_last owner (Some last) others own e = by (is_eq (canonical_cmp owner last.0)) e
  where
    by : (b : Bool) → cond b (Some last.1) None ≡ Some own → cond b (Some last.1) (own_at owner others) ≡ Some own
    by true e = e
    by false e = absurd (cc)

pub missed_last : (owner : Name) (last : Option Owned) (others : List Owned) → own_of owner last [] ≡ None → own_of owner last others ≡ own_at owner others
missed_last owner None others e = refl
missed_last owner (Some last) others e = by (is_eq (canonical_cmp owner last.0)) e
  where
    by : (b : Bool) → cond b (Some last.1) None ≡ None → cond b (Some last.1) (own_at owner others) ≡ own_at owner others
    by true e = absurd (cc)
    by false e = refl

-- items that are found are those of what is found
pub some_items : (o : Option (Vec (List Record))) (items : List (List Record)) → option_map (λ (v : Vec (List Record)). v.items) o ≡ Some items → (v : Vec (List Record)) × (o ≡ Some v) × (v.items ≡ items)
some_items None items e = absurd (cc)
some_items (Some v) items e = (v, refl, ap there e)
  where
    there : Option (List (List Record)) → List (List Record)
    there None = items
    there (Some x) = x

pub no_items : (o : Option (Vec (List Record))) → option_map (λ (v : Vec (List Record)). v.items) o ≡ None → o ≡ None
no_items None e = refl
no_items (Some v) e = absurd (cc)

-- all owners that were taken, with that one behind the others
pub all_own : (others : List Owned) (last : Owned) → AreOwn last.0 last.1.items → AllOwn others → AllOwn (others ++ last ∷ [])
all_own [] last own h = (own, tt)
all_own (first ∷ others) last own h = (h.0, all_own others last own h.1)

pub all_of_own : (last : Option Owned) (others : List Owned) → IsLastOwn last → AllOwn others → AllOwn (all_of last others)
all_of_own None others own each = each
all_of_own (Some last) others own each = all_own others last own each

-- and the zone with all of them is the one that was made
pub all_made : (zone : List Record) (last : Option Owned) (others : List Owned) → with_owners zone (all_of last others) ≡ made_of zone last others
all_made zone None others = refl
all_made zone (Some last) others = behind zone others
  where
    behind : (zone : List Record) (others : List Owned) → with_owners zone (others ++ last ∷ []) ≡ with_owner last.0 (records_in last.1.items) (with_owners zone others)
    behind zone [] = refl
    behind zone (own ∷ others) = behind (with_owner own.0 (records_in own.1.items) zone) others

-- what holds anyhow holds where a call gives a value
pub on_ok : {T E P : Type 0} (r : Result T E) → P → OnOk r P
on_ok (Ok x) h = h
on_ok (Err e) h = tt

-- where none are left, those so far are all
pub all_so_far : (owned rest others : List Owned) → owned ++ rest ≡ others → rest ≡ [] → owned ≡ others
all_so_far owned rest others all none = sym (append-nil owned) ∙ ap (λ (l : List Owned). owned ++ l) (sym none) ∙ all
