-- What is found of the sets of an owner that was taken.
use Rattle.std.proofs.Common.{◌≡◌, ◌≢◌, ℕ, Bool, true, false, ◌&&◌, ◌==◌, cond, List, [], ◌∷◌, filter, get_or, Option, None, Some, MatchOption, MatchBool, refl, sym, ap, subst, ◌∙◌, true≢false}
use Rattle.std.specs.Global.{Vec}
use Rattle.std.specs.Option.{IfSome, option_map}
use Rattle.std.specs.Map.{lookup}
use Rattle.std.specs.BTreeMap.{is_at}
use Rattle.std.specs.List.{AllByRecursion, find}
use Rattle.std.proofs.lemmas.List.Elements.{All-from_recursion}
use Rattle.std.specs.Ordering.{is_eq}
use Rattle.std.specs.declared.cmp.Ordering.{Ordering}
use Rattle.std.specs.declared.cmp.Ordering.TheVariants.{Less, Equal, Greater}
use Rattle.dns_name.specs.Name.{Name, is_same, canonical_cmp, fold_name}
use Rattle.dns_name.specs.Order.{is_same_equiv}
use Rattle.dns_rdata.specs.Record.{Record, owner_of, rtype_of}
use Rattle.zone_tree.specs.Zone.{IsBefore, stands_at, is_of, rrset_of, rrsets_of}
use Rattle.zone_tree.specs.Sets.{records_in, IsRRset, AreWhole}
use Rattle.zone_tree.specs.Filed.{Owned}
use Rattle.zone_tree.specs.Edit.{AreOwn}
use Rattle.update_core.specs.Tagged.{tagged_cmp}
use Rattle.update_core.specs.Overlay.{at_owner, own_at, own_of, made_of, IsOverlay, Overlaid}
use Rattle.zone_tree.proofs.Rising.{each_weaker, filter_alike, rises_from_pairs}
use Rattle.zone_tree.proofs.LookLemmas.{rrset_found}
use Rattle.zone_tree.proofs.ZoneLemmas.{sets_whole}
use Rattle.update_core.proofs.BesideLemmas.{kept_inside}
use Rattle.update_core.proofs.TaggedLemmas.{same_lookup}
use Rattle.update_core.proofs.OwnSets.{own_same}
use Rattle.update_core.proofs.OverlayLemmas.{stands_now, now_rises, same_by_owners, same_there, found_now, found_last, missed_last, some_items, no_items, copied_own}

module _ (zone : List Record) (owner : Name) (own : List (List Record)) (mine : AreOwn owner own) (is : records_in own ≡ rrsets_of zone owner) where
  -- the records of a type at the owner, or at the owner spelt otherwise, are those of its sets
  of_sets : (name : Name) (rtype : ℕ) → is_same name owner ≡ true → rrset_of (records_in own) name rtype ≡ rrset_of zone name rtype
  of_sets name rtype same = ap (filter (is_of name rtype)) is ∙ kept_inside (is_of name rtype) (stands_at owner) outside zone
    where
      outside : (s : Record) → stands_at owner s ≡ false → is_of name rtype s ≡ false
      outside s apart = by (is_same s.owner name) refl
        where
          by : (b : Bool) → is_same s.owner name ≡ b → (b && s.rtype == rtype) ≡ false
          by false e = refl
          by true e = absurd (true≢false (sym same ∙ sym (is_same_equiv.congr s.owner name owner e) ∙ apart))

  all_same : filter (λ s. is_same (owner_of s) owner) own ≡ own
  all_same = filter_alike (λ s. is_same (owner_of s) owner) true own (each_weaker (λ s. owner_of s ≡ fold_name owner) (λ s. is_same (owner_of s) owner ≡ true) (λ s e. own_same owner (owner_of s) e) own mine.own)

  pub set_found : (rtype : ℕ) (set : Option (List Record)) → set ≡ find (λ s. rtype_of s == rtype) own → MatchOption set (rrset_of zone owner rtype ≡ []) (λ s. (s ≡ rrset_of zone owner rtype) × (rrset_of zone owner rtype ≡ [] → ⊥))
  set_found rtype set e =
      subst (λ (rs : List Record). MatchOption set (rs ≡ []) (λ s. (s ≡ rs) × (rs ≡ [] → ⊥))) (of_sets owner rtype (is_same_equiv.refl owner)) (rrset_found own mine.rising owner rtype own all_same set e)

  pub whole_found : AreWhole zone own
  whole_found =
      let whole = sets_whole own mine.rising in
      record {
        some = whole.some;
        whole = λ k d within. whole.whole k d within ∙ of_sets (owner_of (get_or own k d)) (rtype_of (get_or own k d)) (own_same owner (owner_of (get_or own k d)) (All-from_recursion (λ s. owner_of s ≡ fold_name owner) own mine.own k d within));
        ascending = whole.ascending;
      }

module _ (zone : List Record) (last : Option Owned) (others : List Owned) (count : ℕ) (h : IsOverlay zone last others count) (owner : Name) where
  abbrev made : List Record
  made = made_of zone last others

  pub made_at : (own : Option (Vec (List Record))) → own_of owner last others ≡ own → rrsets_of made owner ≡ at_owner (rrsets_of zone owner) own
  made_at own e = stands_now owner zone last others h.own h.each h.ordered ∙ ap (at_owner (rrsets_of zone owner)) e

  -- the sets of an owner that was taken, and of another
  pub taken_there : (own : Vec (List Record)) → own_of owner last others ≡ Some own → AreOwn owner own.items × (records_in own.items ≡ rrsets_of made owner)
  taken_there own e = (found_now owner last others own h.own h.each e, sym (made_at (Some own) e))

  pub other_there : own_of owner last others ≡ None → (sets : List (List Record)) → AllByRecursion IsRRset sets → records_in sets ≡ rrsets_of zone owner → AreWhole zone sets → AreOwn owner sets × (records_in sets ≡ rrsets_of made owner)
  other_there e sets each is whole = (copied_own zone owner sets each is whole, is ∙ sym (made_at None e))

  -- found with the owner that was changed last, beside it, or nowhere
  pub last_there : (sets : List (List Record)) → option_map (λ (v : Vec (List Record)). v.items) (own_of owner last []) ≡ Some sets → AreOwn owner sets × (records_in sets ≡ rrsets_of made owner)
  last_there sets e =
      let found = some_items (own_of owner last []) sets e in
      subst (λ (s : List (List Record)). AreOwn owner s × (records_in s ≡ rrsets_of made owner)) found.2 (taken_there found.0 (found_last owner last others found.0 found.1))

  module _ (none : option_map (λ (v : Vec (List Record)). v.items) (own_of owner last []) ≡ None) where
    found_beside : own_of owner last others ≡ lookup (is_at (tagged_cmp owner)) others
    found_beside = missed_last owner last others (no_items (own_of owner last []) none) ∙ sym (same_lookup owner others)

    pub beside_there : (own : Vec (List Record)) → lookup (is_at (tagged_cmp owner)) others ≡ Some own → AreOwn owner own.items × (records_in own.items ≡ rrsets_of made owner)
    beside_there own e = taken_there own (found_beside ∙ e)

    pub zone_there : lookup (is_at (tagged_cmp owner)) others ≡ None → (sets : List (List Record)) → AllByRecursion IsRRset sets → records_in sets ≡ rrsets_of zone owner → AreWhole zone sets
        → AreOwn owner sets × (records_in sets ≡ rrsets_of made owner)
    zone_there e sets each is whole = other_there (found_beside ∙ e) sets each is whole

-- where the same stands at each owner that was taken, no other zone was made
module _ (zone : List Record) (last : Option Owned) (others : List Owned) (count : ℕ) (h : IsOverlay zone last others count) where
  abbrev now : List Record
  now = made_of zone last others

  found_same : (name : Name) (owned : List Owned) → AllByRecursion (λ own. rrsets_of now own.0 ≡ rrsets_of zone own.0) owned → (own_at name owned ≡ None → rrsets_of now name ≡ rrsets_of zone name) → rrsets_of now name ≡ rrsets_of zone name
  found_same name [] same none = none refl
  found_same name (first ∷ owned) same none = by (canonical_cmp name first.0) refl (found_same name owned same.1) none
    where
      by : (o : Ordering) → canonical_cmp name first.0 ≡ o → ((own_at name owned ≡ None → rrsets_of now name ≡ rrsets_of zone name) → rrsets_of now name ≡ rrsets_of zone name)
          → (cond (is_eq o) (Some first.1) (own_at name owned) ≡ None → rrsets_of now name ≡ rrsets_of zone name) → rrsets_of now name ≡ rrsets_of zone name
      by Less e more none = more none
      by Equal e more none = sym (same_there now name first.0 e) ∙ same.0 ∙ same_there zone name first.0 e
      by Greater e more none = more none

  stands_as : (name : Name) → own_of name last others ≡ None → rrsets_of now name ≡ rrsets_of zone name
  stands_as name none = stands_now name zone last others h.own h.each h.ordered ∙ ap (at_owner (rrsets_of zone name)) none

  pub unmade : IfSome last (λ own. rrsets_of now own.0 ≡ rrsets_of zone own.0) → AllByRecursion (λ own. rrsets_of now own.0 ≡ rrsets_of zone own.0) others → now ≡ zone
  unmade mine each =
      let rising = rises_from_pairs IsBefore zone h.base.rules.ascending in
      same_by_owners now zone (now_rises zone last others h.own h.each rising) rising (λ name. by name last mine (stands_as name))
    where
      by : (name : Name) (own : Option Owned) → IfSome own (λ own. rrsets_of now own.0 ≡ rrsets_of zone own.0) → (own_of name own others ≡ None → rrsets_of now name ≡ rrsets_of zone name) → rrsets_of now name ≡ rrsets_of zone name
      by name None mine none = found_same name others each none
      by name (Some own) mine none = found_same name (own ∷ others) (mine, each) none

abbrev the_overlaid : List Record → Option Owned → List Owned → Overlaid
the_overlaid zone last others = record { base = zone; made = made_of zone last others }

-- so what was compared tells whether another one was
abbrev pub StaysAt : Overlaid → Name → Type 0
StaysAt v name = rrsets_of v.made name ≡ rrsets_of v.base name

module _ (zone : List Record) (last : Option Owned) (others : List Owned) (count : ℕ) (h : IsOverlay zone last others count) (v : Overlaid) (is : the_overlaid zone last others ≡ v) where
  pub reported : IfSome last (λ own. StaysAt v own.0) → (b : Bool) → MatchBool b (v.made ≢ v.base) (AllByRecursion (λ own. StaysAt v own.0) others) → MatchBool b (v.made ≢ v.base) (v.made ≡ v.base)
  reported mine true differs = differs
  reported mine false same =
      ap (λ (v : Overlaid). v.made) (sym is)
      ∙ unmade zone last others count h (subst (λ (v : Overlaid). IfSome last (λ own. StaysAt v own.0)) (sym is) mine) (subst (λ (v : Overlaid). AllByRecursion (λ own. StaysAt v own.0) others) (sym is) same)
      ∙ ap (λ (v : Overlaid). v.base) is
