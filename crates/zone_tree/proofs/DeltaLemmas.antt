-- What a zone has that another hasn't, from the owners where they differ.
use Rattle.std.proofs.Common.{◌≡◌, refl, sym, ap, ◌∙◌, subst, ℕ, ◌+◌, ◌<◌, ◌≤◌, Bool, true, false, ◌&&◌, ◌||◌, cond, List, [], ◌∷◌, ◌++◌, length, take, get_or, arith, true≢false, eqb-true, eq-eqb, append-nil}
use Rattle.std.specs.Prelude.{◌==◌, not}
use Rattle.std.specs.declared.cmp.Ordering.TheVariants.{Less, Equal}
use Rattle.std.specs.List.{filter, list_any, All, AllPairs, AllByRecursion}
use Rattle.std.specs.List.Sorted.{IsStrictlySortedBy}
use Rattle.std.specs.Ordering.{nat_cmp, is_lt, is_eq, ordering_then}
use Rattle.std.specs.Cmp.{first_so, second_so}
use Rattle.std.proofs.lemmas.Cmp.{tied_itself, alike_right}
use Rattle.std.proofs.lemmas.Grind.{flat_map-append}
use Rattle.std.proofs.lemmas.List.{take_more}
use Rattle.std.proofs.lemmas.Map.Views.{any-filter_same}
use Rattle.std.proofs.lemmas.List.Elements.{All-from_recursion, recursion_from_All, filter-append}
use Rattle.dns_name.specs.Name.{is_same, canonical_cmp}
use Rattle.dns_name.specs.Order.{is_same_equiv, is_same_tied}
use Rattle.dns_rdata.specs.Numbers.{type_SOA}
use Rattle.dns_rdata.specs.Record.{Record, IsLawful, owner_of, rtype_of}
use Rattle.shared_tree.proofs.PairLemmas.{each_passes, filter_none}
use Rattle.zone_tree.specs.Zone.{IsZone, IsBefore, is_of, stands_at, share_ttl, rrset_of, rrsets_of}
use Rattle.zone_tree.specs.Sets.{records_in, IsSetBefore, IsOf, IsRRset, AreAscending, AreWhole, sets_in}
use Rattle.zone_tree.specs.Change.{is_same_record, left_out}
use Rattle.zone_tree.specs.Delta.{DifferOnlyAt, other_than_soa, some_set, sets_left_out, sets_of, AreWholeAt}
use Rattle.zone_tree.proofs.NameOrder.{canonical_total, folds_from_same, tie_from_same}
use Rattle.zone_tree.proofs.Rising.{each_weaker, each_append, each_both, each_filter, each_always, Rises, Rises-append, Rises-filter, pairs_from_rises, rises_from_pairs}
use Rattle.zone_tree.proofs.SetLemmas.{record_total}
use Rattle.zone_tree.proofs.WalkLemmas.{records_of_sets, sets_from_whole, behind_by, owners_rise}
use Rattle.zone_tree.proofs.LackingLemmas.{is_of_same}

-- a record of a set's owner and type, beside the first of the set
not_either : (b c : Bool) → b ≡ true → (not b || c) ≡ true → c ≡ true
not_either true c e h = h
not_either false c e h = absurd (true≢false (sym e))

record IsLike (r s : Record) : Type 0 where
  owner : s.owner ≡ r.owner
  rtype : s.rtype ≡ r.rtype
  ttl : s.ttl ≡ r.ttl

like : (r s : Record) → IsLawful r → IsLawful s → is_of r.owner r.rtype s ≡ true → share_ttl r s ≡ true → IsLike r s
like r s h k here share =
    let same = first_so (is_same s.owner r.owner) (s.rtype == r.rtype) here in
    let number : s.rtype ≡ r.rtype = eqb-true s.rtype r.rtype (second_so (is_same s.owner r.owner) (s.rtype == r.rtype) here) in
    let back : is_of s.owner s.rtype r ≡ true = rw (is_same_equiv.symm r.owner s.owner ∙ same, eq-eqb r.rtype s.rtype (sym number)) refl in
    record {
      owner = k.folded ∙ folds_from_same s.owner r.owner same ∙ sym h.folded;
      rtype = number;
      ttl = sym (eqb-true r.ttl s.ttl (not_either (is_of s.owner s.rtype r) (r.ttl == s.ttl) back share));
    }

-- a zone's whole sets are sets
module _ (zone : List Record) (h : IsZone zone) where
  keeps : (P : Record → Type 0) → All P zone → (set : List Record) (owner : List (List ℕ)) (rtype : ℕ) → set ≡ rrset_of zone owner rtype → AllByRecursion P set
  keeps P k set owner rtype e = subst (AllByRecursion P) (sym e) (each_filter (is_of owner rtype) P zone (recursion_from_All P zone k))

  rrset_whole : (set : List Record) → 0 < length set → set ≡ rrset_of zone (owner_of set) (rtype_of set) → IsRRset set
  rrset_whole [] l e = absurd (omega arith)
  rrset_whole (r ∷ rs) l e =
      let set : List Record = r ∷ rs in
      let lawful = keeps IsLawful h.rules.lawful set r.owner r.rtype e in
      let here : AllByRecursion (λ s. is_of r.owner r.rtype s ≡ true) set = subst (AllByRecursion (λ s. is_of r.owner r.rtype s ≡ true)) (sym e) (each_passes (is_of r.owner r.rtype) zone) in
      let share = keeps (λ s. share_ttl r s ≡ true) (keeps (λ x. All (λ s. share_ttl x s ≡ true) zone) h.rules.one_ttl set r.owner r.rtype e).0 set r.owner r.rtype e in
      let all = each_both (λ s. IsLawful s × (is_of r.owner r.rtype s ≡ true)) (λ s. share_ttl r s ≡ true) set (each_both IsLawful (λ s. is_of r.owner r.rtype s ≡ true) set lawful here) share in
      record {
        some = l;
        few = omega (arith, (keeps (λ x. length (rrset_of zone x.owner x.rtype) ≤ 256) h.limits.small_sets set r.owner r.rtype e).0, ap length e);
        shared = All-from_recursion (IsOf set) set
            (each_weaker (λ s. (IsLawful s × (is_of r.owner r.rtype s ≡ true)) × (share_ttl r s ≡ true)) (IsOf set)
            (λ s m. let k = like r s lawful.0 m.0.0 m.0.1 m.1 in record { owner = k.owner; rtype = k.rtype; ttl = k.ttl }) set all);
        lawful = All-from_recursion IsLawful set lawful;
        short = All-from_recursion (λ x. length x.rdata ≤ 4096) set (keeps (λ x. length x.rdata ≤ 4096) h.limits.short set r.owner r.rtype e);
        ascending = subst (AllPairs IsBefore) (sym e) (pairs_from_rises IsBefore (rrset_of zone r.owner r.rtype) (Rises-filter (is_of r.owner r.rtype) IsBefore zone (rises_from_pairs IsBefore zone h.rules.ascending)));
      }

  pub whole_lawful : (sets : List (List Record)) → AreWhole zone sets → AllByRecursion IsRRset sets
  whole_lawful sets w =
      each_weaker (λ s. (0 < length s) × (s ≡ rrset_of zone (owner_of s) (rtype_of s))) IsRRset (λ s m. rrset_whole s m.0 m.1) sets
      (each_both (λ s. 0 < length s) (λ s. s ≡ rrset_of zone (owner_of s) (rtype_of s)) sets (recursion_from_All (λ s. 0 < length s) sets w.some) (recursion_from_All (λ s. s ≡ rrset_of zone (owner_of s) (rtype_of s)) sets w.whole))

-- what a test keeps of a set is a set of its owner and type, or nothing
record IsPart (set part : List Record) : Type 0 where
  owner : owner_of part ≡ owner_of set
  rtype : rtype_of part ≡ rtype_of set
  lawful : IsRRset part

part_by : (set part : List Record) → IsRRset set → 0 < length part → length part ≤ length set → AllByRecursion (IsOf set) part → AllByRecursion IsLawful part → AllByRecursion (λ r. length r.rdata ≤ 4096) part → Rises IsBefore part → IsPart set part
part_by set [] h l m own lawful short rise = absurd (omega arith)
part_by set (r ∷ rs) h l m own lawful short rise =
    let part : List Record = r ∷ rs in
    record {
      owner = own.0.owner;
      rtype = own.0.rtype;
      lawful = record {
        some = l;
        few = omega (arith, h.few, m);
        shared = All-from_recursion (IsOf part) part (each_weaker (IsOf set) (IsOf part) (λ s n. record { owner = n.owner ∙ sym own.0.owner; rtype = n.rtype ∙ sym own.0.rtype; ttl = n.ttl ∙ sym own.0.ttl }) part own);
        lawful = All-from_recursion IsLawful part lawful;
        short = All-from_recursion (λ x. length x.rdata ≤ 4096) part short;
        ascending = pairs_from_rises IsBefore part rise;
      };
    }

kept_length : {X : Type 0} (p : X → Bool) (xs : List X) → length (filter p xs) ≤ length xs
kept_length p [] = omega arith
kept_length {X} p (x ∷ xs) = by (p x) (kept_length p xs)
  where
    by : (b : Bool) → length (filter p xs) ≤ length xs → length (cond b (x ∷ filter p xs) (filter p xs)) ≤ length (x ∷ xs)
    by true e = omega (arith, e)
    by false e = omega (arith, e)

part_of : (p : Record → Bool) (set : List Record) → IsRRset set → 0 < length (filter p set) → IsPart set (filter p set)
part_of p set h l =
    part_by set (filter p set) h l (kept_length p set)
    (each_filter p (IsOf set) set (recursion_from_All (IsOf set) set h.shared))
    (each_filter p IsLawful set (recursion_from_All IsLawful set h.lawful))
    (each_filter p (λ r. length r.rdata ≤ 4096) set (recursion_from_All (λ r. length r.rdata ≤ 4096) set h.short))
    (Rises-filter p IsBefore set (rises_from_pairs IsBefore set h.ascending))

-- what sets have that a zone hasn't
module _ (other : List Record) where
  abbrev kept : Record → Bool
  kept r = not (r.rtype == type_SOA) && not (list_any (is_same_record r) other)

  by_part : (set : List Record) → IsRRset set → (Q : List (List Record) → Type 0) → Q [] → ((part : List Record) → IsPart set part → Q (part ∷ [])) → Q (some_set (left_out set other))
  by_part set h Q none some = go (left_out set other) refl
    where
      go : (part : List Record) → part ≡ left_out set other → Q (some_set part)
      go [] e = none
      go (r ∷ rs) e =
          let l : 0 < length (r ∷ rs) = omega arith in
          some (r ∷ rs) (subst (IsPart set) (sym e) (part_of kept set h (subst (λ l. 0 < length l) e l)))

  lawful_out : (sets : List (List Record)) → AllByRecursion IsRRset sets → AllByRecursion IsRRset (sets_left_out sets other)
  lawful_out [] h = tt
  lawful_out (set ∷ sets) h = each_append IsRRset (some_set (left_out set other)) (sets_left_out sets other) (by_part set h.0 (AllByRecursion IsRRset) tt (λ part m. (m.lawful, tt))) (lawful_out sets h.1)

  before_out : (x : List Record) (sets : List (List Record)) → AllByRecursion IsRRset sets → AllByRecursion (IsSetBefore x) sets → AllByRecursion (IsSetBefore x) (sets_left_out sets other)
  before_out x [] h k = tt
  before_out x (set ∷ sets) h k =
      each_append (IsSetBefore x) (some_set (left_out set other)) (sets_left_out sets other)
      (by_part set h.0 (AllByRecursion (IsSetBefore x)) tt (λ part m. ((λ i. is_lt (ordering_then (canonical_cmp (owner_of x) (m.owner i)) (nat_cmp (rtype_of x) (m.rtype i)))) ∙ k.0, tt)))
      (before_out x sets h.1 k.1)

  rises_out : (sets : List (List Record)) → AllByRecursion IsRRset sets → Rises IsSetBefore sets → Rises IsSetBefore (sets_left_out sets other)
  rises_out [] h k = tt
  rises_out (set ∷ sets) h k =
      let rest = sets_left_out sets other in
      Rises-append IsSetBefore (some_set (left_out set other)) rest
      (by_part set h.0 (Rises IsSetBefore) tt (λ part m. (tt, tt)))
      (rises_out sets h.1 k.1)
      (by_part set h.0 (AllByRecursion (λ x. AllByRecursion (IsSetBefore x) rest)) tt
      (λ part m. (each_weaker (IsSetBefore set) (IsSetBefore part) (λ y b. (λ i. is_lt (ordering_then (canonical_cmp (m.owner i) (owner_of y)) (nat_cmp (m.rtype i) (rtype_of y)))) ∙ b) rest (before_out set sets h.1 k.0), tt)))

  some_records : (set : List Record) → records_in (some_set set) ≡ set
  some_records [] = refl
  some_records (r ∷ rs) = append-nil (r ∷ rs)

  records_out : (sets : List (List Record)) → records_in (sets_left_out sets other) ≡ left_out (records_in sets) other
  records_out [] = refl
  records_out (set ∷ sets) =
      flat_map-append (λ s. s) (some_set (left_out set other)) (sets_left_out sets other)
      ∙ (λ i. some_records (left_out set other) i ++ records_out sets i)
      ∙ sym (filter-append kept set (records_in sets))

-- the sets at owners in order
module _ (zone : List Record) where
  tie_each : (o : List (List ℕ)) (sets : List (List Record)) → AllByRecursion (λ s. 0 < length s) sets → AllByRecursion (λ r. stands_at o r ≡ true) (records_in sets) → AllByRecursion (λ s. canonical_cmp (owner_of s) o ≡ Equal) sets
  tie_each o [] h k = tt
  tie_each o ([] ∷ sets) h k = absurd (omega (arith, h.0))
  tie_each o ((r ∷ rs) ∷ sets) h k = (tie_from_same r.owner o k.0, tie_each o sets h.1 (behind rs k.1))
    where
      behind : (rs : List Record) → AllByRecursion (λ r. stands_at o r ≡ true) (rs ++ records_in sets) → AllByRecursion (λ r. stands_at o r ≡ true) (records_in sets)
      behind [] m = m
      behind (s ∷ rs) m = behind rs m.1

  ties_at : (o : List (List ℕ)) → AreWholeAt zone o → AllByRecursion (λ s. canonical_cmp (owner_of s) o ≡ Equal) (sets_in (rrsets_of zone o))
  ties_at o w =
      tie_each o (sets_in (rrsets_of zone o)) (recursion_from_All (λ s. 0 < length s) (sets_in (rrsets_of zone o)) w.some)
      (subst (AllByRecursion (λ r. stands_at o r ≡ true)) (sym (records_of_sets (rrsets_of zone o))) (each_passes (stands_at o) zone))

  all_behind : (o : List (List ℕ)) (owners : List (List (List ℕ))) → AllByRecursion (λ y. canonical_cmp o y ≡ Less) owners → AllByRecursion (AreWholeAt zone) owners → AllByRecursion (λ s. canonical_cmp o (owner_of s) ≡ Less) (sets_of zone owners)
  all_behind o [] h w = tt
  all_behind o (y ∷ owners) h w =
      each_append (λ s. canonical_cmp o (owner_of s) ≡ Less) (sets_in (rrsets_of zone y)) (sets_of zone owners)
      (each_weaker (λ s. canonical_cmp (owner_of s) y ≡ Equal) (λ s. canonical_cmp o (owner_of s) ≡ Less) (λ s e. alike_right canonical_total (owner_of s) y o e ∙ h.0) (sets_in (rrsets_of zone y)) (ties_at y w.0))
      (all_behind o owners h.1 w.1)

  rises_at : (owners : List (List (List ℕ))) → IsStrictlySortedBy canonical_cmp owners → AllByRecursion (AreWholeAt zone) owners → Rises IsSetBefore (sets_of zone owners)
  unfolding IsStrictlySortedBy
  rises_at [] h w = tt
  rises_at (o ∷ owners) h w =
      let rest = sets_of zone owners in
      Rises-append IsSetBefore (sets_in (rrsets_of zone o)) rest (rises_from_pairs IsSetBefore (sets_in (rrsets_of zone o)) w.0.ascending) (rises_at owners h.1 w.1)
      (each_weaker (λ s. canonical_cmp (owner_of s) o ≡ Equal) (λ s. AllByRecursion (IsSetBefore s) rest)
      (λ s e. each_weaker (λ t. canonical_cmp o (owner_of t) ≡ Less) (IsSetBefore s) (λ t f. ap (λ x. is_lt (ordering_then x (nat_cmp (rtype_of s) (rtype_of t)))) (canonical_total.congr (owner_of s) o (owner_of t) e ∙ f)) rest (all_behind o owners h.0 w.1))
      (sets_in (rrsets_of zone o)) (ties_at o w.0))

  lawful_at : IsZone zone → (owners : List (List (List ℕ))) → AllByRecursion (AreWholeAt zone) owners → AllByRecursion IsRRset (sets_of zone owners)
  lawful_at h [] w = tt
  lawful_at h (o ∷ owners) w = each_append IsRRset (sets_in (rrsets_of zone o)) (sets_of zone owners) (whole_lawful zone h (sets_in (rrsets_of zone o)) w.0) (lawful_at h owners w.1)

-- whether a name is one of owners
abbrev is_among : List (List (List ℕ)) → Record → Bool
is_among owners r = list_any (is_same r.owner) owners

among_behind : (o name : List (List ℕ)) (owners : List (List (List ℕ))) → AllByRecursion (λ y. canonical_cmp o y ≡ Less) owners → list_any (is_same name) owners ≡ true → canonical_cmp o name ≡ Less
among_behind o name [] h e = absurd (true≢false (sym e))
among_behind o name (y ∷ owners) h e = by (is_same name y) refl e (among_behind o name owners h.1)
  where
    by : (b : Bool) → is_same name y ≡ b → b || list_any (is_same name) owners ≡ true → (list_any (is_same name) owners ≡ true → canonical_cmp o name ≡ Less) → canonical_cmp o name ≡ Less
    by true f k more = alike_right canonical_total name y o (tie_from_same name y f) ∙ h.0
    by false f k more = more k

-- the records at an owner stand in front of those at owners behind it
filter_or : (o : List (List ℕ)) (owners : List (List (List ℕ))) → AllByRecursion (λ y. canonical_cmp o y ≡ Less) owners → (xs : List Record) → Rises IsBefore xs
    → filter (is_among (o ∷ owners)) xs ≡ filter (stands_at o) xs ++ filter (is_among owners) xs
filter_or o owners h [] k = refl
filter_or o owners h (x ∷ xs) k = by (stands_at o x) refl (is_among owners x) refl (filter_or o owners h xs k.1)
  where
    apart : (r : Record) → canonical_cmp o r.owner ≡ Less → stands_at o r ≡ false
    apart r e = is_same_equiv.symm r.owner o ∙ is_same_tied o r.owner ∙ ap is_eq e

    by : (b : Bool) → stands_at o x ≡ b → (c : Bool) → is_among owners x ≡ c → filter (is_among (o ∷ owners)) xs ≡ filter (stands_at o) xs ++ filter (is_among owners) xs
        → cond (b || c) (x ∷ filter (is_among (o ∷ owners)) xs) (filter (is_among (o ∷ owners)) xs) ≡ cond b (x ∷ filter (stands_at o) xs) (filter (stands_at o) xs) ++ cond c (x ∷ filter (is_among owners) xs) (filter (is_among owners) xs)
    by true e true f more = absurd (true≢false (sym e ∙ apart x (among_behind o x.owner owners h f)))
    by true e false f more = ap (λ l. x ∷ l) more
    by false e false f more = more
    by false e true f more =
        let less = among_behind o x.owner owners h f in
        let none : filter (stands_at o) xs ≡ [] = filter_none (stands_at o) xs (each_weaker (IsBefore x) (λ y. stands_at o y ≡ false) (λ y b. apart y (behind_by o x y (canonical_cmp x.owner y.owner) refl (owners_rise x y b) less)) xs k.0) in
        rw none (ap (λ l. x ∷ l) (more ∙ ap (λ l. l ++ filter (is_among owners) xs) none))

records_at : (zone : List Record) → Rises IsBefore zone → (owners : List (List (List ℕ))) → IsStrictlySortedBy canonical_cmp owners → records_in (sets_of zone owners) ≡ filter (is_among owners) zone
unfolding IsStrictlySortedBy
records_at zone k [] h = sym (filter_none (is_among []) zone (each_always (λ r. false ≡ false) (λ r. refl) zone))
records_at zone k (o ∷ owners) h =
    flat_map-append (λ s. s) (sets_in (rrsets_of zone o)) (sets_of zone owners)
    ∙ (λ i. records_of_sets (rrsets_of zone o) i ++ records_at zone k owners h.1 i)
    ∙ sym (filter_or o owners h.0 zone k)

-- each record of a list is there
pub same_itself : (r : Record) → is_same_record r r ≡ true
same_itself r = rw (tied_itself record_total r, eq-eqb r.ttl r.ttl refl) refl

or_true : (b : Bool) → b || true ≡ true
or_true true = refl
or_true false = refl

pub all_there : (xs : List Record) → AllByRecursion (λ r. list_any (is_same_record r) xs ≡ true) xs
all_there [] = tt
all_there (x ∷ xs) = (
  ap (λ b. b || list_any (is_same_record x) xs) (same_itself x),
  each_weaker (λ r. list_any (is_same_record r) xs ≡ true) (λ r. is_same_record r x || list_any (is_same_record r) xs ≡ true) (λ r e. ap (λ b. is_same_record r x || b) e ∙ or_true (is_same_record r x)) xs (all_there xs),
)

and_false : (b : Bool) → b && false ≡ false
and_false true = refl
and_false false = refl

pub left_out_itself : (zone : List Record) → left_out zone zone ≡ []
left_out_itself zone =
    filter_none (kept zone) zone
    (each_weaker (λ r. list_any (is_same_record r) zone ≡ true) (λ r. kept zone r ≡ false) (λ r e. ap (λ b. not (r.rtype == type_SOA) && not b) e ∙ and_false (not (r.rtype == type_SOA))) zone (all_there zone))

-- what the one has and the other hasn't stands at an owner where they differ
differs_at : (owners : List (List (List ℕ))) (zone other : List Record) → DifferOnlyAt owners zone other → (r : Record) → list_any (is_same_record r) zone ≡ true → kept other r ≡ true → is_among owners r ≡ true
differs_at owners zone other apart r there k = by (is_among owners r) refl
  where
    plain : (r.rtype == type_SOA) ≡ false
    plain = so (r.rtype == type_SOA) (first_so (not (r.rtype == type_SOA)) (not (list_any (is_same_record r) other)) k)
      where
        so : (b : Bool) → not b ≡ true → b ≡ false
        so true e = absurd (true≢false (sym e))
        so false e = refl

    same : (s : Record) → is_same_record r s ≡ true → is_of r.owner r.rtype s ≡ true
    same s e = is_of_same r s r.owner r.rtype refl refl e

    there_alike : (s : Record) → is_same_record r s ≡ true → not (s.rtype == type_SOA) ≡ true
    there_alike s e =
        let number : s.rtype ≡ r.rtype = eqb-true s.rtype r.rtype (second_so (is_same s.owner r.owner) (s.rtype == r.rtype) (same s e)) in
        ap (λ n. not (n == type_SOA)) number ∙ ap not plain

    found : (xs : List Record) → list_any (is_same_record r) (other_than_soa (rrsets_of xs r.owner)) ≡ list_any (is_same_record r) xs
    found xs =
        any-filter_same (is_same_record r) (λ s. not (s.rtype == type_SOA)) true there_alike (rrsets_of xs r.owner)
        ∙ any-filter_same (is_same_record r) (stands_at r.owner) true (λ s e. first_so (is_same s.owner r.owner) (s.rtype == r.rtype) (same s e)) xs

    by : (b : Bool) → is_among owners r ≡ b → is_among owners r ≡ true
    by true e = e
    by false e =
        let also : list_any (is_same_record r) other ≡ true = sym (found other) ∙ ap (list_any (is_same_record r)) (sym (apart r.owner e)) ∙ found zone ∙ there in
        absurd (true≢false (sym k ∙ ap (λ b. not (r.rtype == type_SOA) && not b) also ∙ and_false (not (r.rtype == type_SOA))))

filter_within : {X : Type 0} (p q : X → Bool) (xs : List X) → AllByRecursion (λ x. p x ≡ true → q x ≡ true) xs → filter p (filter q xs) ≡ filter p xs
filter_within p q [] f = refl
filter_within {X} p q (x ∷ xs) f = by (p x) (q x) refl f.0 (filter_within p q xs f.1)
  where
    by : (b c : Bool) → p x ≡ b → (p x ≡ true → c ≡ true) → filter p (filter q xs) ≡ filter p xs → filter p (cond c (x ∷ filter q xs) (filter q xs)) ≡ cond b (x ∷ filter p xs) (filter p xs)
    by true true e g k = rw (e, k) refl
    by true false e g k = absurd (true≢false (sym (g e)))
    by false true e g k = rw (e, k) refl
    by false false e g k = k

module _ (zone other : List Record) (h : IsZone zone) (owners : List (List (List ℕ))) (sorted : IsStrictlySortedBy canonical_cmp owners) (whole : AllByRecursion (AreWholeAt zone) owners) where
  pub left_out_ascends : AreAscending (sets_left_out (sets_of zone owners) other)
  left_out_ascends =
      let sets = sets_of zone owners in
      let lawful = lawful_at zone h owners whole in
      record {
        each = All-from_recursion IsRRset (sets_left_out sets other) (lawful_out other sets lawful);
        ascending = pairs_from_rises IsSetBefore (sets_left_out sets other) (rises_out other sets lawful (rises_at zone owners sorted whole));
      }

  pub left_out_records : DifferOnlyAt owners zone other → records_in (sets_left_out (sets_of zone owners) other) ≡ left_out zone other
  left_out_records apart =
      records_out other (sets_of zone owners)
      ∙ ap (filter (kept other)) (records_at zone (rises_from_pairs IsBefore zone h.rules.ascending) owners sorted)
      ∙ filter_within (kept other) (is_among owners) zone
      (each_weaker (λ r. list_any (is_same_record r) zone ≡ true) (λ r. kept other r ≡ true → is_among owners r ≡ true) (λ r e k. differs_at owners zone other apart r e k) zone (all_there zone))

-- one owner more
module _ (zone other : List Record) (owners : List (List (List ℕ))) (i : ℕ) (o : List (List ℕ)) (within : i < length owners) (is : o ≡ get_or owners i o) where
  taken_more : take (i + 1) owners ≡ take i owners ++ o ∷ []
  taken_more = take_more owners i o within ∙ ap (λ x. take i owners ++ x ∷ []) (sym is)

  module _ (sets : List (List Record)) (records : records_in sets ≡ rrsets_of zone o) (whole : AreWhole zone sets) where
    own : sets ≡ sets_in (rrsets_of zone o)
    own = sym (sets_from_whole zone sets whole) ∙ ap sets_in records

    pub out_more : sets_left_out (sets_of zone (take i owners)) other ++ sets_left_out sets other ≡ sets_left_out (sets_of zone (take (i + 1) owners)) other
    out_more =
        let at = λ (ns : List (List (List ℕ))). sets_of zone ns in
        let one : at (o ∷ []) ≡ sets = append-nil (sets_in (rrsets_of zone o)) ∙ sym own in
        ap (λ l. sets_left_out (at (take i owners)) other ++ sets_left_out l other) (sym one)
        ∙ sym (flat_map-append (λ set. some_set (left_out set other)) (at (take i owners)) (at (o ∷ [])))
        ∙ ap (λ l. sets_left_out l other) (sym (flat_map-append (λ owner. sets_in (rrsets_of zone owner)) (take i owners) (o ∷ [])))
        ∙ ap (λ l. sets_left_out (at l) other) (sym taken_more)

    pub whole_more : AllByRecursion (AreWholeAt zone) (take i owners) → AllByRecursion (AreWholeAt zone) (take (i + 1) owners)
    whole_more h = subst (AllByRecursion (AreWholeAt zone)) (sym taken_more) (each_append (AreWholeAt zone) (take i owners) (o ∷ []) h (subst (AreWhole zone) own whole, tt))
