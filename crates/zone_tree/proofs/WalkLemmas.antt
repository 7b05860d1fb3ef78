-- Records as sets, and a walk over them, one owner's behind another's.
use Rattle.std.proofs.Common.{◌≡◌, refl, sym, ap, ◌∙◌, subst, ℕ, ◌<◌, Bool, true, false, ◌&&◌, cond, List, [], ◌∷◌, ◌++◌, length, arith, true≢false, eqb-true, eq-eqb}
use Rattle.std.specs.Prelude.{◌==◌}
use Rattle.std.specs.declared.cmp.Ordering.{Ordering}
use Rattle.std.specs.declared.cmp.Ordering.TheVariants.{Less, Equal, Greater}
use Rattle.std.specs.List.{AllByRecursion}
use Rattle.std.specs.Ordering.{nat_cmp, is_gt, ordering_then}
use Rattle.std.specs.Cmp.{first_so, second_so}
use Rattle.std.specs.Cmp.Lexicographic.{slice_cmp}
use Rattle.std.proofs.lemmas.Cmp.{alike_right}
use Rattle.std.proofs.lemmas.List.Elements.{recursion_from_All}
use Rattle.dns_name.specs.Name.{is_same, canonical_cmp}
use Rattle.dns_name.specs.Order.{is_same_equiv}
use Rattle.dns_rdata.specs.Record.{Record, owner_of, rtype_of}
use Rattle.shared_tree.proofs.PairLemmas.{each_passes}
use Rattle.zone_tree.specs.Zone.{IsBefore, is_of, rrset_of}
use Rattle.zone_tree.specs.Sets.{records_in, IsSetBefore, AreWhole, in_front, sets_in}
use Rattle.zone_tree.specs.Filed.{Filed, sets_under, records_under, AreFiled}
use Rattle.zone_tree.proofs.NameOrder.{canonical_total}
use Rattle.zone_tree.proofs.Rising.{each_weaker, each_append, Rises, rises_from_pairs}
use Rattle.zone_tree.proofs.LookLemmas.{not_both, owner_by, is_false}
use Rattle.zone_tree.proofs.ZoneLemmas.{sets_whole}

-- the records of sets are the records
front_kept : (r : Record) (sets : List (List Record)) → records_in (in_front r sets) ≡ r ∷ records_in sets
front_kept r [] = refl
front_kept r (set ∷ sets) = by (is_of (owner_of set) (rtype_of set) r)
  where
    by : (b : Bool) → records_in (cond b ((r ∷ set) ∷ sets) ((r ∷ []) ∷ set ∷ sets)) ≡ r ∷ records_in (set ∷ sets)
    by true = refl
    by false = refl

pub records_of_sets : (rs : List Record) → records_in (sets_in rs) ≡ rs
records_of_sets [] = refl
records_of_sets (r ∷ rs) = front_kept r (sets_in rs) ∙ ap (λ l. r ∷ l) (records_of_sets rs)

-- the first set of records begins with the first of them
record Begins (r : Record) (sets : List (List Record)) : Type 0 where
  behind : List Record
  others : List (List Record)
  is : sets ≡ (r ∷ behind) ∷ others

begins : (r : Record) (sets : List (List Record)) → Begins r (in_front r sets)
begins r [] = record { behind = []; others = []; is = refl }
begins r (set ∷ sets) = by (is_of (owner_of set) (rtype_of set) r)
  where
    by : (b : Bool) → Begins r (cond b ((r ∷ set) ∷ sets) ((r ∷ []) ∷ set ∷ sets))
    by true = record { behind = set; others = sets; is = refl }
    by false = record { behind = []; others = set ∷ sets; is = refl }

-- two records are of one set
abbrev of_one : Record → Record → Bool
of_one r s = is_of s.owner s.rtype r

-- records of which none is of one set with any of others are sets in front of theirs
front_alone : (r : Record) (ys : List Record) → AllByRecursion (λ y. of_one r y ≡ false) ys → in_front r (sets_in ys) ≡ (r ∷ []) ∷ sets_in ys
front_alone r [] h = refl
front_alone r (y ∷ ys) h =
    let first = begins y (sets_in ys) in
    rw (first.is, h.0) refl

front_joined : (r x : Record) (sets others : List (List Record)) → Begins x sets → in_front r (sets ++ others) ≡ in_front r sets ++ others
front_joined r x sets others h = subst (λ l. in_front r (l ++ others) ≡ in_front r l ++ others) (sym h.is) (by (of_one r x))
  where
    by : (b : Bool) → cond b ((r ∷ x ∷ h.behind) ∷ (h.others ++ others)) ((r ∷ []) ∷ (x ∷ h.behind) ∷ (h.others ++ others)) ≡ cond b ((r ∷ x ∷ h.behind) ∷ h.others) ((r ∷ []) ∷ (x ∷ h.behind) ∷ h.others) ++ others
    by true = refl
    by false = refl

pub sets_joined : (xs ys : List Record) → AllByRecursion (λ x. AllByRecursion (λ y. of_one x y ≡ false) ys) xs → sets_in (xs ++ ys) ≡ sets_in xs ++ sets_in ys
sets_joined [] ys h = refl
sets_joined (x ∷ []) ys h = front_alone x ys h.0
sets_joined (x ∷ z ∷ xs) ys h =
    ap (in_front x) (sets_joined (z ∷ xs) ys h.1) ∙ front_joined x z (sets_in (z ∷ xs)) (sets_in ys) (begins z (sets_in xs))

-- records of one owner and type
abbrev AreOf : List (List ℕ) → ℕ → List Record → Type 0
AreOf name t rs = AllByRecursion (λ r. is_of name t r ≡ true) rs

same_each : (name : List (List ℕ)) (t : ℕ) (r s : Record) → is_of name t r ≡ true → is_of name t s ≡ true → of_one r s ≡ true
same_each name t r s h k =
    let first : is_same r.owner s.owner ≡ true =
    is_same_equiv.congr r.owner name s.owner (first_so (is_same r.owner name) (r.rtype == t) h) ∙ is_same_equiv.symm name s.owner ∙ first_so (is_same s.owner name) (s.rtype == t) k in
    let second : r.rtype ≡ s.rtype =
    eqb-true r.rtype t (second_so (is_same r.owner name) (r.rtype == t) h) ∙ sym (eqb-true s.rtype t (second_so (is_same s.owner name) (s.rtype == t) k)) in
    rw (first, eq-eqb r.rtype s.rtype second) refl

one_set : (name : List (List ℕ)) (t : ℕ) (r : Record) (rs : List Record) → AreOf name t (r ∷ rs) → sets_in (r ∷ rs) ≡ (r ∷ rs) ∷ []
one_set name t r [] h = refl
one_set name t r (s ∷ rs) h = ap (in_front r) (one_set name t s rs h.1) ∙ rw (same_each name t r s h.0 h.1.0) refl

-- records of sets of which one is before the other aren't of one set
other_set : (set other : List Record) (r s : Record) → IsSetBefore set other → is_of (owner_of set) (rtype_of set) r ≡ true → is_of (owner_of other) (rtype_of other) s ≡ true → of_one r s ≡ false
other_set set other r s before h k =
    is_false (of_one r s)
    (λ one.
    let here : is_same (owner_of set) r.owner ≡ true = is_same_equiv.symm (owner_of set) r.owner ∙ first_so (is_same r.owner (owner_of set)) (r.rtype == rtype_of set) h in
    let here_type : rtype_of set ≡ r.rtype = sym (eqb-true r.rtype (rtype_of set) (second_so (is_same r.owner (owner_of set)) (r.rtype == rtype_of set) h)) in
    let there : is_same (owner_of other) r.owner ≡ true =
    is_same_equiv.symm (owner_of other) r.owner ∙ is_same_equiv.congr r.owner s.owner (owner_of other) (first_so (is_same r.owner s.owner) (r.rtype == s.rtype) one) ∙ first_so (is_same s.owner (owner_of other)) (s.rtype == rtype_of other) k in
    let there_type : rtype_of other ≡ r.rtype =
    sym (eqb-true s.rtype (rtype_of other) (second_so (is_same s.owner (owner_of other)) (s.rtype == rtype_of other) k)) ∙ sym (eqb-true r.rtype s.rtype (second_so (is_same r.owner s.owner) (r.rtype == s.rtype) one)) in
    let yes : is_same (owner_of other) r.owner && rtype_of other == r.rtype ≡ true = rw (there, eq-eqb (rtype_of other) r.rtype there_type) refl in
    true≢false (sym yes ∙ not_both r.owner r.rtype set other before (rw (here, eq-eqb (rtype_of set) r.rtype here_type) refl)))

-- sets in order are those of their records
module _ where
  abbrev Whole : List Record → Type 0
  Whole set = (0 < length set) × AreOf (owner_of set) (rtype_of set) set

  apart_all : (set : List Record) (sets : List (List Record)) → AllByRecursion Whole sets → AllByRecursion (IsSetBefore set) sets → (r : Record) → is_of (owner_of set) (rtype_of set) r ≡ true → AllByRecursion (λ y. of_one r y ≡ false) (records_in sets)
  apart_all set [] h k r e = tt
  apart_all set (other ∷ sets) h k r e =
      each_append (λ y. of_one r y ≡ false) other (records_in sets)
      (each_weaker (λ y. is_of (owner_of other) (rtype_of other) y ≡ true) (λ y. of_one r y ≡ false) (λ y f. other_set set other r y k.0 e f) other h.0.1)
      (apart_all set sets h.1 k.1 r e)

  alone : (set : List Record) → Whole set → sets_in set ≡ set ∷ []
  alone [] h = absurd (omega (arith, h.0))
  alone (r ∷ rs) h = one_set r.owner r.rtype r rs h.1

  sets_of_records : (sets : List (List Record)) → AllByRecursion Whole sets → Rises IsSetBefore sets → sets_in (records_in sets) ≡ sets
  sets_of_records [] h k = refl
  sets_of_records (set ∷ sets) h k =
      sets_joined set (records_in sets) (each_weaker (λ r. is_of (owner_of set) (rtype_of set) r ≡ true) (λ r. AllByRecursion (λ y. of_one r y ≡ false) (records_in sets)) (λ r e. apart_all set sets h.1 k.0 r e) set h.0.1)
      ∙ rw (alone set h.0, sets_of_records sets h.1 k.1) refl

  whole_each : (zone : List Record) (sets : List (List Record)) → AllByRecursion (λ set. 0 < length set) sets → AllByRecursion (λ set. set ≡ rrset_of zone (owner_of set) (rtype_of set)) sets → AllByRecursion Whole sets
  whole_each zone [] h k = tt
  whole_each zone (set ∷ sets) h k = (
    (h.0, subst (AreOf (owner_of set) (rtype_of set)) (sym k.0) (each_passes (is_of (owner_of set) (rtype_of set)) zone)),
    whole_each zone sets h.1 k.1,
  )

  pub sets_from_whole : (zone : List Record) (sets : List (List Record)) → AreWhole zone sets → sets_in (records_in sets) ≡ sets
  sets_from_whole zone sets h =
      sets_of_records sets
      (whole_each zone sets (recursion_from_All (λ set. 0 < length set) sets h.some) (recursion_from_All (λ set. set ≡ rrset_of zone (owner_of set) (rtype_of set)) sets h.whole))
      (rises_from_pairs IsSetBefore sets h.ascending)

-- a name that isn't after one that another is before
pub behind_by : (name : List (List ℕ)) (x y : Record) (o : Ordering) → canonical_cmp x.owner y.owner ≡ o → is_gt o ≡ false → canonical_cmp name x.owner ≡ Less → canonical_cmp name y.owner ≡ Less
behind_by name x y Less e h f = canonical_total.trans name x.owner y.owner f e
behind_by name x y Equal e h f = sym (alike_right canonical_total x.owner y.owner name e) ∙ f
behind_by name x y Greater e h f = absurd (true≢false h)

pub owners_rise : (x y : Record) → IsBefore x y → is_gt (canonical_cmp x.owner y.owner) ≡ false
owners_rise x y h = owner_by (canonical_cmp x.owner y.owner) (ordering_then (nat_cmp x.rtype y.rtype) (slice_cmp nat_cmp x.rdata y.rdata)) h

-- the sets under a zone's owners are the sets of its records
pub sets_filed : (pairs : List Filed) → AreFiled pairs → sets_under pairs ≡ sets_in (records_under pairs)
sets_filed pairs h = sym (sets_from_whole (records_under pairs) (sets_under pairs) (sets_whole (sets_under pairs) h.rising))
