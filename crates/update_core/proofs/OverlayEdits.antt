-- What the changes of a record make of an overlay (RFC 2136, 3.4.2).
use Rattle.std.proofs.Common.{◌≡◌, ℕ, ◌+◌, ◌<◌, ◌≤◌, Bool, true, false, not, ◌==◌, cond, if◌then◌else◌, List, [], ◌∷◌, ◌++◌, length, filter, bytes_eq, Option, None, Some, refl, sym, ap, subst, ◌∙◌, append-nil, arith, true≢false}
use Rattle.std.specs.Global.{Vec}
use Rattle.std.specs.List.{AllByRecursion}
use Rattle.std.specs.List.Sorted.{IsStrictlySortedBy}
use Rattle.std.specs.Map.{keys_of}
use Rattle.std.specs.BTreeMap.{is_at}
use Rattle.std.specs.Ordering.{is_lt, is_gt, is_eq, nat_cmp, ordering_then, ordering_reverse}
use Rattle.std.specs.declared.cmp.Ordering.{Ordering}
use Rattle.std.specs.declared.cmp.Ordering.TheVariants.{Less, Equal, Greater}
use Rattle.std.proofs.lemmas.Cmp.{tied_itself}
use Rattle.std.proofs.lemmas.List.Elements.{recursion_from_All, filter-append}
use Rattle.dns_name.specs.Name.{Name, is_same, canonical_cmp, fold_name}
use Rattle.dns_rdata.proofs.NameLemmas.{fold_name-fold_name}
use Rattle.dns_rdata.specs.Record.{Record, owner_of, rtype_of, without_data}
use Rattle.dns_rdata.specs.Raw.{RawRecord}
use Rattle.dns_rdata.specs.Numbers.{class_IN, class_NONE}
use Rattle.zone_tree.specs.Zone.{IsZone, IsBefore, stands_at, is_of, rrset_of, rrsets_of, apex_of}
use Rattle.zone_tree.specs.Sets.{records_in, IsRRset, IsOf}
use Rattle.zone_tree.specs.Filed.{Owned}
use Rattle.zone_tree.specs.Change.{with_rrset, without_rrset, beside, edited}
use Rattle.zone_tree.specs.Edit.{AreOwn}
use Rattle.zone_tree.specs.declared.change.Change.{Change}
use Rattle.zone_tree.specs.declared.change.Change.TheVariants.{Put, Remove}
use Rattle.zone_tree.proofs.NameOrder.{canonical_total, tie_from_same, folds_from_same}
use Rattle.zone_tree.proofs.PutLemmas.{put_length}
use Rattle.zone_tree.proofs.Rising.{each_weaker, each_filter, filter_alike, Rises, rises_from_pairs}
use Rattle.update_core.specs.Verdict.{prescan_of}
use Rattle.update_core.specs.Act.{effect, IsSent}
use Rattle.update_core.specs.Applied.{AreOf, removals, set_behind}
use Rattle.update_core.specs.Tagged.{tagged_cmp}
use Rattle.update_core.specs.Overlay.{own_at, own_of, made_of, AllOwn, IsOverlay, IsChangeAt, edited_sets, set_left, change_for}
use Rattle.update_core.proofs.ListLemmas.{and_left, by_test}
use Rattle.update_core.proofs.LimitsKept.{not_longer}
use Rattle.update_core.proofs.EffectKeeps.{effect_keeps}
use Rattle.update_core.proofs.BesideLemmas.{kept_inside}
use Rattle.update_core.proofs.RowEffects.{after_is, after_limit, own_behind, first_of}
use Rattle.update_core.proofs.ZoneParts.{of_place}
use Rattle.update_core.proofs.OwnSets.{passes, beside_folded, own_same, edited_own}
use Rattle.update_core.proofs.OverlayLemmas.{decided, same_there, stands_now, now_rises, next_length, overlaid, updated}

-- a change at an owner changes nothing at another name
module _ (owner name : Name) (apart : is_eq (canonical_cmp name owner) ≡ false) where
  put_beside : (zone set : List Record) → owner_of set ≡ fold_name owner → IsRRset set → rrsets_of (with_rrset zone set) name ≡ rrsets_of zone name
  put_beside zone set e h =
      let low = filter (λ r. is_lt (beside set r)) zone in
      let high = filter (λ r. is_gt (beside set r)) zone in
      filter-append (stands_at name) (low ++ set) high ∙ ap (λ l. l ++ filter (stands_at name) high) (filter-append (stands_at name) low set)
      ∙ (λ i. decided (λ r. is_lt (beside set r)) (stands_at name) (is_lt (canonical_cmp name owner)) (λ r at. ap is_lt (is_present r at)) zone i ++ none i
      ++ decided (λ r. is_gt (beside set r)) (stands_at name) (is_gt (canonical_cmp name owner)) (λ r at. ap is_gt (is_present r at)) zone i)
      ∙ by (canonical_cmp name owner) apart
    where
      first : (o p : Ordering) → is_eq o ≡ false → ordering_then o p ≡ o
      first Less p e = refl
      first Equal p e = cc
      first Greater p e = refl

      there : (r : Record) → stands_at name r ≡ true → canonical_cmp r.owner (owner_of set) ≡ canonical_cmp name owner
      there r at = ap (canonical_cmp r.owner) e ∙ beside_folded r.owner owner ∙ canonical_total.congr r.owner name owner (tie_from_same r.owner name at)

      is_present : (r : Record) → stands_at name r ≡ true → beside set r ≡ canonical_cmp name owner
      is_present r at = ap (λ o. ordering_then o (nat_cmp r.rtype (rtype_of set))) (there r at) ∙ first (canonical_cmp name owner) (nat_cmp r.rtype (rtype_of set)) apart

      other : (b : Bool) (n : Name) → n ≡ fold_name owner → is_same n name ≡ b → b ≡ false
      other false n f g = refl
      other true n f g =
          absurd (true≢false (sym (ap is_eq (sym (canonical_total.congr n name owner (tie_from_same n name g)) ∙ ap (λ m. canonical_cmp m owner) f ∙ fold_ties)) ∙ apart))
        where
          fold_ties : canonical_cmp (fold_name owner) owner ≡ Equal
          fold_ties = tie_from_same (fold_name owner) owner (own_same owner (fold_name owner) refl)

      none : filter (stands_at name) set ≡ []
      none = filter_alike (stands_at name) false set (each_weaker (IsOf set) (λ r. stands_at name r ≡ false) (λ r of. other (stands_at name r) r.owner (of.owner ∙ e) refl) set (recursion_from_All (IsOf set) set h.shared))

      by : (o : Ordering) → is_eq o ≡ false → cond (is_lt o) (rrsets_of zone name) [] ++ [] ++ cond (is_gt o) (rrsets_of zone name) [] ≡ rrsets_of zone name
      by Less f = append-nil (rrsets_of zone name ++ []) ∙ append-nil (rrsets_of zone name)
      by Equal f = cc
      by Greater f = refl

  remove_beside : (zone : List Record) (rtype : ℕ) → rrsets_of (without_rrset zone owner rtype) name ≡ rrsets_of zone name
  remove_beside zone rtype = kept_inside (stands_at name) (λ s. not (is_of owner rtype s)) outside zone
    where
      so : (b : Bool) → not b ≡ false → b ≡ true
      so true e = refl
      so false e = cc

      outside : (s : Record) → not (is_of owner rtype s) ≡ false → stands_at name s ≡ false
      outside s e = by (stands_at name s) refl
        where
          at : is_same s.owner owner ≡ true
          at = and_left (is_same s.owner owner) (s.rtype == rtype) (so (is_of owner rtype s) e)

          by : (b : Bool) → stands_at name s ≡ b → b ≡ false
          by false f = refl
          by true f = absurd (true≢false (sym (ap is_eq (sym (canonical_total.congr s.owner name owner (tie_from_same s.owner name f)) ∙ tie_from_same s.owner owner at)) ∙ apart))

  pub edited_beside : (zone : List Record) (changes : List Change) → AllByRecursion (IsChangeAt owner) changes → rrsets_of (edited zone changes) name ≡ rrsets_of zone name
  edited_beside zone [] at = refl
  edited_beside zone (Put set ∷ changes) at = edited_beside (with_rrset zone set) changes at.1 ∙ put_beside zone set at.0.0 at.0.1
  edited_beside zone (Remove n rtype ∷ changes) at =
      edited_beside (without_rrset zone n rtype.0) changes at.1 ∙ ap (λ n. rrsets_of (without_rrset zone n rtype.0) name) at.0 ∙ remove_beside zone rtype.0

-- sets that are those of an owner as it is kept are that owner's
pub own_from_key : (key owner : Name) → key ≡ fold_name owner → (sets : List (List Record)) → AreOwn key sets → AreOwn owner sets
own_from_key key owner fold sets mine =
    record { rising = mine.rising; own = each_weaker (λ s. owner_of s ≡ fold_name key) (λ s. owner_of s ≡ fold_name owner) (λ s k. k ∙ ap fold_name fold ∙ fold_name-fold_name owner) sets mine.own }

pub found_from_key : (key owner : Name) → key ≡ fold_name owner → (zone : List Record) → rrsets_of zone key ≡ rrsets_of zone owner
found_from_key key owner fold zone = ap (rrsets_of zone) fold ∙ same_there zone owner (fold_name owner) (sym tied)
  where
    tied : Equal ≡ canonical_cmp owner (fold_name owner)
    tied = sym (beside_folded owner owner ∙ tied_itself canonical_total owner)

-- an owner's sets are taken, changed, and put back
module _ (base : List Record) (last : Option Owned) (others : List Owned) (count : ℕ) (h : IsOverlay base last others count) (r : RawRecord) (changes : List Change) (of : AreOf (made_of base last others) r changes)
    (at : AllByRecursion (IsChangeAt r.owner) changes) (own : List (List Record)) (mine : AreOwn r.owner own) (records : records_in own ≡ rrsets_of (made_of base last others) r.owner) where
  abbrev cur : List Record
  cur = made_of base last others

  abbrev next : List Record
  next = edited cur changes

  -- no more records go than there are
  pub few_go : length (records_in own) ≤ count
  few_go = let most = not_longer (stands_at r.owner) cur in omega (arith, ap length records, h.counted)

  cur_rises : Rises IsBefore cur
  cur_rises = rises_from_pairs IsBefore cur h.lawful.rules.ascending

  next_rises : Rises IsBefore next
  next_rises = rises_from_pairs IsBefore next of.rules.ascending

  elsewhere : (name : Name) → is_eq (canonical_cmp name r.owner) ≡ false → rrsets_of next name ≡ rrsets_of cur name
  elsewhere name apart = edited_beside r.owner name apart cur changes at

  module _ (sets : List (List Record)) (is : sets ≡ edited_sets own changes) where
    after : AreOwn r.owner sets × (records_in sets ≡ rrsets_of next r.owner)
    after = let both = edited_own r.owner cur own mine records changes at in (subst (AreOwn r.owner) (sym is) both.0, ap records_in is ∙ both.1)

    pub counted : length next + length (records_in own) ≡ count + length (records_in sets)
    counted = omega (arith, next_length cur next r.owner sets after.0 after.1 cur_rises next_rises elsewhere, ap length records, h.counted)

  pub over_limit : 1000000 < length next → effect cur r ≡ None
  over_limit many = after_limit cur r changes of many

  module _ (more : ℕ) (e : more ≡ length next) (few : more ≤ 1000000) where
    pub effect_is : effect cur r ≡ Some next
    effect_is = after_is cur r changes next of refl (omega (arith, e))

    module _ (key : Name) (fold : key ≡ fold_name r.owner) (given : Vec (List Record)) (is : given.items ≡ edited_sets own changes) (left : List Owned) (each : AllOwn left) (ordered : IsStrictlySortedBy tagged_cmp (keys_of left))
        (apart : (name : Name) → is_at (canonical_cmp key) name ≡ false → own_at name left ≡ own_of name last others) where
      abbrev now : List Record
      now = made_of base (Some (key, given)) left

      key_own : AreOwn key given.items
      key_own =
          let mine = (after given.items is).0 in
          record { rising = mine.rising; own = each_weaker (λ s. owner_of s ≡ fold_name r.owner) (λ s. owner_of s ≡ fold_name key) (λ s k. k ∙ sym (ap fold_name fold ∙ fold_name-fold_name r.owner)) given.items mine.own }

      pub made_is : now ≡ next
      made_is =
          let sets = after given.items is in
          overlaid cur next r.owner given.items sets.0 sets.1 cur_rises next_rises elsewhere base now (λ name. own_of name last others) (λ name. own_of name (Some (key, given)) left)
          (λ name. stands_now name base last others h.own h.each h.ordered)
          (now_rises base (Some (key, given)) left key_own each (rises_from_pairs IsBefore base h.base.rules.ascending))
          (λ name. stands_now name base (Some (key, given)) left key_own each ordered)
          given refl (updated key r.owner fold given left (λ name. own_of name last others) apart)

      pub made_apex : apex_of now ≡ apex_of cur
      made_apex = ap apex_of made_is ∙ of.apex

      pub made_overlay : IsSent r → prescan_of cur r ≡ None → IsOverlay base (Some (key, given)) left more
      made_overlay sent passed = record {
        base = h.base;
        own = key_own;
        each = each;
        ordered = ordered;
        lawful = subst IsZone (sym made_is) (effect_keeps cur next r h.lawful sent passed effect_is).is;
        apex = made_apex ∙ h.apex;
        counted = e ∙ ap length (sym made_is);
      }

-- a set whose records stand at an owner is the owner's
pub set_is_at : (r : RawRecord) (set : List Record) → IsRRset set → AllByRecursion (λ s. is_of r.owner r.rtype s ≡ true) set → owner_of set ≡ fold_name r.owner
set_is_at r [] h own = absurd (omega (arith, h.some))
set_is_at r (s ∷ ss) h own = (h.lawful 0 s (omega arith)).folded ∙ folds_from_same s.owner r.owner (and_left (is_same s.owner r.owner) (s.rtype == r.rtype) own.0)

pub put_at_owner : (r : RawRecord) (set : List Record) → IsRRset set → AllByRecursion (λ s. is_of r.owner r.rtype s ≡ true) set → (changes : List Change) → changes ≡ Put set ∷ [] → AllByRecursion (IsChangeAt r.owner) changes
put_at_owner r set h own changes is = subst (AllByRecursion (IsChangeAt r.owner)) (sym is) ((set_is_at r set h own, h), tt)

pub removals_at_owner : (r : RawRecord) (owner : Name) → owner ≡ r.owner → (sets : List (List Record)) (changes : List Change) → changes ≡ removals owner sets → AllByRecursion (IsChangeAt r.owner) changes
removals_at_owner r owner o sets changes is = subst (AllByRecursion (IsChangeAt r.owner)) (sym is) (by sets)
  where
    by : (sets : List (List Record)) → AllByRecursion (IsChangeAt r.owner) (removals owner sets)
    by [] = tt
    by (set ∷ sets) = (o, by sets)

-- what a record makes of the set of its type is at its owner, and of its type
left_each : (zone : List Record) (r : RawRecord) → AllByRecursion (λ s. is_of r.owner r.rtype s ≡ true) (set_left zone r)
left_each zone r =
    by_test (AllByRecursion (λ s. is_of r.owner r.rtype s ≡ true)) (r.class == class_IN) (set_behind zone r) (if r.class == class_NONE then without_data (rrset_of zone r.owner r.rtype) r.octets else [])
    (λ _. own_behind zone r)
    (λ _. by_test (AllByRecursion (λ s. is_of r.owner r.rtype s ≡ true)) (r.class == class_NONE) (without_data (rrset_of zone r.owner r.rtype) r.octets) []
    (λ _. each_filter (λ s. not (bytes_eq r.octets s.rdata)) (λ s. is_of r.owner r.rtype s ≡ true) (rrset_of zone r.owner r.rtype) (passes (is_of r.owner r.rtype) zone)) (λ _. tt))

pub change_at : (r : RawRecord) (set : List Record) → AllByRecursion (λ s. is_of r.owner r.rtype s ≡ true) set → (0 < length set → IsRRset set × (length set ≤ 256)) → AllByRecursion (IsChangeAt r.owner) (change_for r set ∷ [])
change_at r [] own h = (refl, tt)
change_at r (s ∷ set) own h = let lawful = (h (omega arith)).0 in ((set_is_at r (s ∷ set) lawful own, lawful), tt)

pub left_at : (zone : List Record) (r : RawRecord) → (0 < length (set_left zone r) → IsRRset (set_left zone r) × (length (set_left zone r) ≤ 256)) → AllByRecursion (IsChangeAt r.owner) (change_for r (set_left zone r) ∷ [])
left_at zone r h = change_at r (set_left zone r) (left_each zone r) h

-- and so many records there are then
change_counts : (zone : List Record) (r : RawRecord) (set : List Record) → AllByRecursion (λ s. is_of r.owner r.rtype s ≡ true) set → length (edited zone (change_for r set ∷ [])) + length (rrset_of zone r.owner r.rtype) ≡ length zone + length set
change_counts zone r [] own = halves zone
  where
    halves : (zs : List Record) → length (filter (λ s. not (is_of r.owner r.rtype s)) zs) + length (filter (is_of r.owner r.rtype) zs) ≡ length zs + 0
    halves [] = refl
    halves (z ∷ zs) = by (is_of r.owner r.rtype z) (halves zs)
      where
        by : (b : Bool) → length (filter (λ s. not (is_of r.owner r.rtype s)) zs) + length (filter (is_of r.owner r.rtype) zs) ≡ length zs + 0
            → length (cond (not b) (z ∷ filter (λ s. not (is_of r.owner r.rtype s)) zs) (filter (λ s. not (is_of r.owner r.rtype s)) zs)) + length (cond b (z ∷ filter (is_of r.owner r.rtype) zs) (filter (is_of r.owner r.rtype) zs)) ≡ length (z ∷ zs) + 0
        by true more = omega (arith, more)
        by false more = omega (arith, more)
change_counts zone r (s ∷ set) own =
    let first = first_of r.owner r.rtype (s ∷ set) (omega arith) own in
    let there : filter (λ z. is_eq (beside (s ∷ set) z)) zone ≡ rrset_of zone r.owner r.rtype = λ i. filter (λ (z : Record). same_place (s ∷ set) first.0 first.1 z i) zone in
    omega (arith, put_length (beside (s ∷ set)) (s ∷ set) zone, ap length there)
  where
    same_place : (own : List Record) → is_same (owner_of own) r.owner ≡ true → rtype_of own ≡ r.rtype → (z : Record) → is_eq (beside own z) ≡ is_of r.owner r.rtype z
    same_place own o t z =
        ap (λ t. is_eq (ordering_then (canonical_cmp z.owner (owner_of own)) (nat_cmp z.rtype t))) t
        ∙ ap (λ c. is_eq (ordering_then c (nat_cmp z.rtype r.rtype))) there ∙ sym (of_place r.owner r.rtype z)
      where
        there : canonical_cmp z.owner (owner_of own) ≡ canonical_cmp z.owner r.owner
        there = canonical_total.antisymm z.owner (owner_of own) ∙ ap ordering_reverse (canonical_total.congr (owner_of own) r.owner z.owner (tie_from_same (owner_of own) r.owner o)) ∙ sym (canonical_total.antisymm z.owner r.owner)

pub left_counts : (zone : List Record) (r : RawRecord) → length (edited zone (change_for r (set_left zone r) ∷ [])) + length (rrset_of zone r.owner r.rtype) ≡ length zone + length (set_left zone r)
left_counts zone r = change_counts zone r (set_left zone r) (left_each zone r)

pub one_counted : (zone : List Record) (r : RawRecord) (count before after : ℕ) → count ≡ length zone → before ≡ length (rrset_of zone r.owner r.rtype) → after ≡ length (set_left zone r)
    → length (edited zone (change_for r (set_left zone r) ∷ [])) + before ≡ count + after
one_counted zone r count before after counted was is = omega (arith, left_counts zone r, counted, was, is)

pub one_fits : (zone : List Record) (r : RawRecord) (count before : ℕ) → count ≡ length zone → before ≡ length (rrset_of zone r.owner r.rtype) → before ≤ count
one_fits zone r count before counted was = omega (arith, not_longer (is_of r.owner r.rtype) zone, counted, was)
