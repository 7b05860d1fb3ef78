-- What the deletions of an update make of a zone is what changes of its sets make of it (RFC 2136, 3.4.2.3 and 3.4.2.4).
use Rattle.std.proofs.Common.{◌≡◌, ◌≢◌, ℕ, Bool, true, false, not, ◌&&◌, ◌||◌, ◌==◌, cond, List, [], ◌∷◌, ◌++◌, map, length, filter, All, bytes_eq, refl, sym, ap, subst, ◌∙◌}
use Rattle.std.specs.List.{AllPairs, AllByRecursion, list_any, flat_map}
use Rattle.std.proofs.lemmas.Bool.{eqb-true}
use Rattle.std.proofs.lemmas.List.Elements.{recursion_from_All}
use Rattle.dns_name.specs.Name.{Name, is_same, fold_name}
use Rattle.dns_name.specs.Order.{is_same_equiv}
use Rattle.dns_rdata.specs.Numbers.{type_NS, type_SOA}
use Rattle.dns_rdata.specs.Record.{Record, IsLawful, owner_of, rtype_of}
use Rattle.dns_rdata.specs.Raw.{RawRecord}
use Rattle.zone_tree.specs.declared.change.Change.{Change}
use Rattle.zone_tree.specs.declared.change.Change.TheVariants.{Put, Remove}
use Rattle.zone_tree.specs.Zone.{IsBefore, stands_at, is_of, rrset_of, rrsets_of, apex_of}
use Rattle.zone_tree.specs.Change.{with_rrset, without_rrset, edited}
use Rattle.zone_tree.specs.Sets.{AreWhole}
use Rattle.zone_tree.proofs.NameOrder.{folds_from_same}
use Rattle.zone_tree.proofs.Rising.{rises_from_pairs, each_weaker, each_filter, each_append, filter_alike}
use Rattle.update_core.specs.Act.{is_apex_set, is_last_apex_record}
use Rattle.update_core.proofs.ListLemmas.{and_left, and_right, either_right, implied, filter_alike as filter_same}
use Rattle.update_core.proofs.VerdictLemmas.{rrset_of-same}
use Rattle.update_core.proofs.Candidates.{without_all, without_set, without_record}
use Rattle.update_core.proofs.ZoneParts.{before_part, behind_part, left_parts, set_parts, each_passes}

-- all that a filter keeps, and filters that agree on what is there
each_kept : (p : Record → Bool) (zs : List Record) → AllByRecursion (λ s. p s ≡ true) zs → filter p zs ≡ zs
each_kept p zs h = filter_alike p true zs h

agree_on : (p q : Record → Bool) (zs : List Record) → AllByRecursion (λ s. p s ≡ q s) zs → filter p zs ≡ filter q zs
agree_on p q [] h = refl
agree_on p q (z ∷ zs) h = rw (h.0) (ap (λ l. cond (q z) (z ∷ l) l) (agree_on p q zs h.1))

always : (P : Record → Type 0) → ((s : Record) → P s) → (zs : List Record) → AllByRecursion P zs
always P h [] = tt
always P h (z ∷ zs) = (h z, always P h zs)

-- what the apex keeps of an owner and a type rests on both alone
module _ (zone : List Record) (owner : Name) (rtype : ℕ) (s : Record) (is : is_of owner rtype s ≡ true) where
  same_owner : is_same s.owner owner ≡ true
  same_owner = and_left (is_same s.owner owner) (s.rtype == rtype) is

  same_type : s.rtype ≡ rtype
  same_type = eqb-true s.rtype rtype (and_right (is_same s.owner owner) (s.rtype == rtype) is)

  pub apex_set_same : is_apex_set zone s.owner s.rtype ≡ is_apex_set zone owner rtype
  apex_set_same = λ i. is_same_equiv.congr s.owner owner (apex_of zone) same_owner i && (same_type i == type_SOA || same_type i == type_NS)

  pub last_same : is_last_apex_record zone s.owner s.rtype ≡ is_last_apex_record zone owner rtype
  last_same = λ i. is_same_equiv.congr s.owner owner (apex_of zone) same_owner i && (same_type i == type_SOA || (same_type i == type_NS && length (rrset_of-same zone s.owner owner type_NS same_owner i) == 1))

unless : (b c : Bool) → (b ≡ true → c ≡ false) → not b || c ≡ not b
unless true c f = f refl
unless false c f = refl

-- the SOA and the NS at the apex stay, and any other set goes whole
pub set_stays : (zone : List Record) (r : RawRecord) → is_apex_set zone r.owner r.rtype ≡ true → without_set zone r ≡ zone
set_stays zone r kept =
    let p : Record → Bool = λ s. not (is_of r.owner r.rtype s) || is_apex_set zone s.owner s.rtype in
    each_kept p zone (always (λ s. p s ≡ true) (λ s. implied (is_of r.owner r.rtype s) (is_apex_set zone s.owner s.rtype) (λ is. apex_set_same zone r.owner r.rtype s is ∙ kept)) zone)

pub set_edits : (zone : List Record) (r : RawRecord) → is_apex_set zone r.owner r.rtype ≡ false → without_set zone r ≡ without_rrset zone r.owner r.rtype
set_edits zone r free =
    filter_same (λ s. not (is_of r.owner r.rtype s) || is_apex_set zone s.owner s.rtype) (λ s. not (is_of r.owner r.rtype s))
    (λ s. unless (is_of r.owner r.rtype s) (is_apex_set zone s.owner s.rtype) (λ is. apex_set_same zone r.owner r.rtype s is ∙ free)) zone

-- a set that isn't there can't go
pub absent_stays : (zone : List Record) (owner : Name) (rtype : ℕ) → rrset_of zone owner rtype ≡ [] → without_rrset zone owner rtype ≡ zone
absent_stays [] owner rtype e = refl
absent_stays (z ∷ zone) owner rtype e = by (is_of owner rtype z) refl e (absent_stays zone owner rtype)
  where
    by : (b : Bool) → is_of owner rtype z ≡ b → cond b (z ∷ rrset_of zone owner rtype) (rrset_of zone owner rtype) ≡ [] → (rrset_of zone owner rtype ≡ [] → without_rrset zone owner rtype ≡ zone) → cond (not b) (z ∷ without_rrset zone owner rtype) (without_rrset zone owner rtype) ≡ z ∷ zone
    by true is none more = cc
    by false is none more = ap (λ l. z ∷ l) (more none)

-- the last NS at the apex stays; else a record goes, and its set with it where it was the only one
module _ (zone : List Record) (r : RawRecord) where
  abbrev is_meant : Record → Bool
  is_meant s = is_of r.owner r.rtype s && bytes_eq r.octets s.rdata

  abbrev is_left : Record → Bool
  is_left s = not (is_meant s) || is_last_apex_record zone s.owner s.rtype

  abbrev own : List Record
  own = rrset_of zone r.owner r.rtype

  abbrev others : List Record
  others = filter (λ s. not (bytes_eq r.octets s.rdata)) own

  pub record_stays : is_last_apex_record zone r.owner r.rtype ≡ true → without_record zone r ≡ zone
  record_stays kept =
      each_kept is_left zone
      (always (λ s. is_left s ≡ true) (λ s. implied (is_meant s) (is_last_apex_record zone s.owner s.rtype) (λ is. last_same zone r.owner r.rtype s (and_left (is_of r.owner r.rtype s) (bytes_eq r.octets s.rdata) is) ∙ kept)) zone)

  -- a record that isn't there can't go
  absent_each : (zs : List Record) → AllByRecursion (λ s. bytes_eq r.octets s.rdata ≡ false) (filter (is_of r.owner r.rtype) zs) → filter is_left zs ≡ zs
  absent_each [] h = refl
  absent_each (z ∷ zs) h = by (is_of r.owner r.rtype z) refl h (absent_each zs)
    where
      by : (b : Bool) → is_of r.owner r.rtype z ≡ b → AllByRecursion (λ s. bytes_eq r.octets s.rdata ≡ false) (cond b (z ∷ filter (is_of r.owner r.rtype) zs) (filter (is_of r.owner r.rtype) zs))
          → (AllByRecursion (λ s. bytes_eq r.octets s.rdata ≡ false) (filter (is_of r.owner r.rtype) zs) → filter is_left zs ≡ zs) → filter is_left (z ∷ zs) ≡ z ∷ zs
      by true e k rest = rw (e, k.0) (ap (λ l. z ∷ l) (rest k.1))
      by false e k rest = rw e (ap (λ l. z ∷ l) (rest k))

  -- a record that isn't there can't go
  pub record_absent : All (λ s. bytes_eq r.octets s.rdata ≡ false) own → without_record zone r ≡ zone
  record_absent none = absent_each zone (recursion_from_All (λ s. bytes_eq r.octets s.rdata ≡ false) own none)

  module _ (ascending : AllPairs IsBefore zone) (free : is_last_apex_record zone r.owner r.rtype ≡ false) where
    left_by : (a b c : Bool) → a ≡ true → c ≡ false → not (a && b) || c ≡ not b
    left_by true true c e k = k
    left_by true false c e k = refl
    left_by false b c e k = cc

    own_left : filter is_left own ≡ others
    own_left =
        agree_on is_left (λ s. not (bytes_eq r.octets s.rdata)) own
        (each_weaker (λ s. is_of r.owner r.rtype s ≡ true) (λ s. is_left s ≡ not (bytes_eq r.octets s.rdata))
        (λ s is. left_by (is_of r.owner r.rtype s) (bytes_eq r.octets s.rdata) (is_last_apex_record zone s.owner s.rtype) is (last_same zone r.owner r.rtype s is ∙ free)) own (each_passes r.owner r.rtype (is_of r.owner r.rtype) zone))

    stays : (s : Record) → is_of r.owner r.rtype s ≡ false → is_left s ≡ true
    stays s e = rw e refl

    record_parts : without_record zone r ≡ before_part r.owner r.rtype zone ++ (others ++ behind_part r.owner r.rtype zone)
    record_parts = left_parts r.owner r.rtype is_left stays zone (rises_from_pairs IsBefore zone ascending) ∙ ap (λ l. before_part r.owner r.rtype zone ++ (l ++ behind_part r.owner r.rtype zone)) own_left

    gone : filter (λ s. not (is_of r.owner r.rtype s)) own ≡ []
    gone =
        filter_alike (λ s. not (is_of r.owner r.rtype s)) false own
        (each_weaker (λ s. is_of r.owner r.rtype s ≡ true) (λ s. not (is_of r.owner r.rtype s) ≡ false) (λ s e. ap not e) own (each_passes r.owner r.rtype (is_of r.owner r.rtype) zone))

    pub record_empties : others ≡ [] → without_record zone r ≡ without_rrset zone r.owner r.rtype
    record_empties none =
        record_parts
        ∙ ap (λ l. before_part r.owner r.rtype zone ++ (l ++ behind_part r.owner r.rtype zone)) (none ∙ sym gone)
        ∙ sym (left_parts r.owner r.rtype (λ s. not (is_of r.owner r.rtype s)) (λ s e. ap not e) zone (rises_from_pairs IsBefore zone ascending))

    first_of : (zs : List Record) → zs ≢ [] → AllByRecursion (λ s. is_of r.owner r.rtype s ≡ true) zs → (is_same (owner_of zs) r.owner ≡ true) × (rtype_of zs ≡ r.rtype)
    first_of [] some h = absurd (some refl)
    first_of (z ∷ zs) some h = (and_left (is_same z.owner r.owner) (z.rtype == r.rtype) h.0, eqb-true z.rtype r.rtype (and_right (is_same z.owner r.owner) (z.rtype == r.rtype) h.0))

    pub record_edits : others ≢ [] → without_record zone r ≡ with_rrset zone others
    record_edits some =
        let first = first_of others some (each_filter (λ s. not (bytes_eq r.octets s.rdata)) (λ s. is_of r.owner r.rtype s ≡ true) own (each_passes r.owner r.rtype (is_of r.owner r.rtype) zone)) in
        record_parts ∙ sym (set_parts r.owner r.rtype zone others first.0 first.1)

-- the owner of a set as a record enters it
pub entered_owner : (zone : List Record) (r : RawRecord) → All IsLawful zone → rrset_of zone r.owner r.rtype ≢ [] → owner_of (rrset_of zone r.owner r.rtype) ≡ fold_name r.owner
entered_owner zone r lawful some =
    by (rrset_of zone r.owner r.rtype) some (each_passes r.owner r.rtype (is_of r.owner r.rtype) zone) (each_filter (is_of r.owner r.rtype) IsLawful zone (recursion_from_All IsLawful zone lawful))
  where
    by : (zs : List Record) → zs ≢ [] → AllByRecursion (λ s. is_of r.owner r.rtype s ≡ true) zs → AllByRecursion IsLawful zs → owner_of zs ≡ fold_name r.owner
    by [] k h m = absurd (k refl)
    by (z ∷ zs) k h m = m.0.folded ∙ folds_from_same z.owner r.owner (and_left (is_same z.owner r.owner) (z.rtype == r.rtype) h.0)

-- whether a change removes a record's set
abbrev pub is_removed : Record → Change → Bool
is_removed s (Put set) = false
is_removed s (Remove owner rtype) = is_of owner rtype.0 s

-- a change removes a set
abbrev pub IsRemove : Change → Type 0
IsRemove (Put set) = ⊥
IsRemove (Remove owner rtype) = Unit {0}

both_filters : (p q : Record → Bool) (zs : List Record) → filter (λ s. not (q s)) (filter (λ s. not (p s)) zs) ≡ filter (λ s. not (p s || q s)) zs
both_filters p q [] = refl
both_filters p q (z ∷ zs) = by (p z) (both_filters p q zs)
  where
    by : (b : Bool) → filter (λ s. not (q s)) (filter (λ s. not (p s)) zs) ≡ filter (λ s. not (p s || q s)) zs
        → filter (λ s. not (q s)) (cond (not b) (z ∷ filter (λ s. not (p s)) zs) (filter (λ s. not (p s)) zs)) ≡ cond (not (b || q z)) (z ∷ filter (λ s. not (p s || q s)) zs) (filter (λ s. not (p s || q s)) zs)
    by true rest = rest
    by false rest = ap (λ l. cond (not (q z)) (z ∷ l) l) rest

-- sets that are removed one after another
pub removes_edit : (changes : List Change) (zone : List Record) → AllByRecursion IsRemove changes → edited zone changes ≡ filter (λ s. not (list_any (is_removed s) changes)) zone
removes_edit [] zone h = sym (each_kept (λ s. true) zone (always (λ s. true ≡ true) (λ s. refl) zone))
removes_edit (Put set ∷ changes) zone h = absurd (h.0)
removes_edit (Remove owner rtype ∷ changes) zone h = removes_edit changes (without_rrset zone owner rtype.0) h.1 ∙ both_filters (is_of owner rtype.0) (λ s. list_any (is_removed s) changes) zone

-- where what is removed is what stands at the owner, but for the SOA and the NS at the apex
pub all_edits : (zone : List Record) (r : RawRecord) (changes : List Change) → AllByRecursion IsRemove changes → AllByRecursion (λ s. list_any (is_removed s) changes ≡ stands_at r.owner s && not (is_apex_set zone s.owner s.rtype)) zone → without_all zone r ≡ edited zone changes
all_edits zone r changes removes same =
    agree_on (λ s. not (stands_at r.owner s) || is_apex_set zone s.owner s.rtype) (λ s. not (list_any (is_removed s) changes)) zone
    (each_weaker (λ s. list_any (is_removed s) changes ≡ stands_at r.owner s && not (is_apex_set zone s.owner s.rtype)) (λ s. not (stands_at r.owner s) || is_apex_set zone s.owner s.rtype ≡ not (list_any (is_removed s) changes))
    (λ s e. either (stands_at r.owner s) (is_apex_set zone s.owner s.rtype) ∙ ap not (sym e)) zone same)
    ∙ sym (removes_edit changes zone removes)
  where
    either : (a b : Bool) → not a || b ≡ not (a && not b)
    either true true = refl
    either true false = refl
    either false b = refl

-- the sets of an owner, but for the SOA and the NS at the apex, removed
abbrev pub may_go : List Record → Name → List Record → Bool
may_go zone owner set = not (is_apex_set zone owner (rtype_of set))

abbrev pub removals : Name → List (List Record) → List Change
removals owner sets = map (λ set. Remove owner (record { 0 = rtype_of set })) sets

removals_remove : (owner : Name) (sets : List (List Record)) → AllByRecursion IsRemove (removals owner sets)
removals_remove owner [] = tt
removals_remove owner (set ∷ sets) = (tt, removals_remove owner sets)

-- a set of the record's type that is among those that go
module _ (zone : List Record) (owner : Name) (s : Record) where
  removed_if : (sets : List (List Record)) → stands_at owner s ≡ true → list_any (is_removed s) (removals owner (filter (may_go zone owner) sets)) ≡ list_any (λ set. s.rtype == rtype_of set) sets && not (is_apex_set zone s.owner s.rtype)
  removed_if [] at = refl
  removed_if (set ∷ sets) at = by (s.rtype == rtype_of set) (may_go zone owner set) refl refl (removed_if sets at)
    where
      free : (s.rtype == rtype_of set) ≡ true → may_go zone owner set ≡ not (is_apex_set zone s.owner s.rtype)
      free e = ap not (sym (apex_set_same zone owner (rtype_of set) s (rw (at, e) refl)))

      by : (b c : Bool) → (s.rtype == rtype_of set) ≡ b → may_go zone owner set ≡ c
          → list_any (is_removed s) (removals owner (filter (may_go zone owner) sets)) ≡ list_any (λ set. s.rtype == rtype_of set) sets && not (is_apex_set zone s.owner s.rtype)
          → list_any (is_removed s) (removals owner (cond c (set ∷ filter (may_go zone owner) sets) (filter (may_go zone owner) sets))) ≡ (b || list_any (λ set. s.rtype == rtype_of set) sets) && not (is_apex_set zone s.owner s.rtype)
      by true true e k rest = let may : not (is_apex_set zone s.owner s.rtype) ≡ true = sym (free e) ∙ k in rw (at, e, may) refl
      by true false e k rest =
          let may : not (is_apex_set zone s.owner s.rtype) ≡ false = sym (free e) ∙ k in
          rest ∙ rw may (nothing (list_any (λ set. s.rtype == rtype_of set) sets))
        where
          nothing : (d : Bool) → d && false ≡ false
          nothing true = refl
          nothing false = refl
      by false true e k rest = rw (at, e) rest
      by false false e k rest = rest

  kept_if : (sets : List (List Record)) → stands_at owner s ≡ false → list_any (is_removed s) (removals owner (filter (may_go zone owner) sets)) ≡ false
  kept_if [] away = refl
  kept_if (set ∷ sets) away = by (may_go zone owner set) (kept_if sets away)
    where
      by : (c : Bool) → list_any (is_removed s) (removals owner (filter (may_go zone owner) sets)) ≡ false → list_any (is_removed s) (removals owner (cond c (set ∷ filter (may_go zone owner) sets) (filter (may_go zone owner) sets))) ≡ false
      by true rest = rw away rest
      by false rest = rest

-- each record of sets is of the type of one of them
typed_set : (zone set : List Record) → set ≡ rrset_of zone (owner_of set) (rtype_of set) → AllByRecursion (λ s. s.rtype == rtype_of set ≡ true) set
typed_set zone set whole =
    let own = rrset_of zone (owner_of set) (rtype_of set) in
    let each : AllByRecursion (λ s. s.rtype == rtype_of set ≡ true) own =
    each_weaker (λ s. is_of (owner_of set) (rtype_of set) s ≡ true) (λ s. s.rtype == rtype_of set ≡ true) (λ s is. and_right (is_same s.owner (owner_of set)) (s.rtype == rtype_of set) is) own
    (each_passes (owner_of set) (rtype_of set) (is_of (owner_of set) (rtype_of set)) zone) in
    subst (AllByRecursion (λ s. s.rtype == rtype_of set ≡ true)) (sym whole) each

typed_each : (zone : List Record) (sets : List (List Record)) → AllByRecursion (λ set. set ≡ rrset_of zone (owner_of set) (rtype_of set)) sets → AllByRecursion (λ s. list_any (λ set. s.rtype == rtype_of set) sets ≡ true) (flat_map (λ set. set) sets)
typed_each zone [] h = tt
typed_each zone (set ∷ sets) h =
    each_append (λ s. list_any (λ other. s.rtype == rtype_of other) (set ∷ sets) ≡ true) set (flat_map (λ other. other) sets)
    (each_weaker (λ s. s.rtype == rtype_of set ≡ true) (λ s. list_any (λ other. s.rtype == rtype_of other) (set ∷ sets) ≡ true) (λ s e. rw e refl) set (typed_set zone set h.0))
    (each_weaker (λ s. list_any (λ other. s.rtype == rtype_of other) sets ≡ true) (λ s. list_any (λ other. s.rtype == rtype_of other) (set ∷ sets) ≡ true) (λ s e. either_right (s.rtype == rtype_of set) (list_any (λ other. s.rtype == rtype_of other) sets) e) (flat_map (λ other. other) sets) (typed_each zone sets h.1))

-- what holds of what a filter keeps
of_kept : (P : Record → Type 0) (p : Record → Bool) (zs : List Record) → AllByRecursion P (filter p zs) → AllByRecursion (λ s. p s ≡ true → P s) zs
of_kept P p [] h = tt
of_kept P p (z ∷ zs) h = by (p z) refl h (of_kept P p zs)
  where
    by : (b : Bool) → p z ≡ b → AllByRecursion P (cond b (z ∷ filter p zs) (filter p zs)) → (AllByRecursion P (filter p zs) → AllByRecursion (λ s. p s ≡ true → P s) zs) → AllByRecursion (λ s. p s ≡ true → P s) (z ∷ zs)
    by true e k rest = (λ _. k.0, rest k.1)
    by false e k rest = (λ is. cc, rest k)

-- all of an owner goes, set by set
pub all_edits_by_sets : (zone : List Record) (r : RawRecord) (sets : List (List Record)) → flat_map (λ set. set) sets ≡ rrsets_of zone r.owner → AreWhole zone sets → without_all zone r ≡ edited zone (removals r.owner (filter (may_go zone r.owner) sets))
all_edits_by_sets zone r sets are whole =
    let changes = removals r.owner (filter (may_go zone r.owner) sets) in
    let typed : AllByRecursion (λ s. list_any (λ set. s.rtype == rtype_of set) sets ≡ true) (rrsets_of zone r.owner) =
    subst (AllByRecursion (λ s. list_any (λ set. s.rtype == rtype_of set) sets ≡ true)) are (typed_each zone sets (recursion_from_All (λ set. set ≡ rrset_of zone (owner_of set) (rtype_of set)) sets whole.whole)) in
    all_edits zone r changes (removals_remove r.owner (filter (may_go zone r.owner) sets))
    (each_weaker (λ s. stands_at r.owner s ≡ true → list_any (λ set. s.rtype == rtype_of set) sets ≡ true) (λ s. list_any (is_removed s) changes ≡ stands_at r.owner s && not (is_apex_set zone s.owner s.rtype))
    (λ s has. one s (stands_at r.owner s) refl has) zone (of_kept (λ s. list_any (λ set. s.rtype == rtype_of set) sets ≡ true) (stands_at r.owner) zone typed))
  where
    one : (s : Record) (b : Bool) → stands_at r.owner s ≡ b → (b ≡ true → list_any (λ set. s.rtype == rtype_of set) sets ≡ true) → list_any (is_removed s) (removals r.owner (filter (may_go zone r.owner) sets)) ≡ b && not (is_apex_set zone s.owner s.rtype)
    one s true at has = removed_if zone r.owner s sets at ∙ rw (has refl) refl
    one s false at has = kept_if zone r.owner s sets at
