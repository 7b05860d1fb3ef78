-- From an owner and a type on: the owner's own sets from the type on, and all sets of the owners behind it.
use Rattle.std.proofs.Common.{◌≡◌, refl, sym, ap, ◌∙◌, subst, ℕ, zero, suc, ◌-◌, ◌≤◌, Bool, true, false, cond, List, [], ◌∷◌, ◌++◌, length, get_or, take, drop, arith, true≢false, ⊎_elim, None}
use Rattle.std.specs.declared.cmp.Ordering.{Ordering}
use Rattle.std.specs.declared.cmp.Ordering.TheVariants.{Less, Equal, Greater}
use Rattle.std.specs.List.{filter, AllByRecursion}
use Rattle.std.specs.List.Sorted.{IsPartitionedBy, IsPartitionPoint}
use Rattle.std.specs.Ordering.{nat_cmp, is_lt, is_gt, is_le, ordering_then, ordering_reverse}
use Rattle.std.specs.Cmp.{nat_cmp_is}
use Rattle.std.proofs.lemmas.Bool.{cases_lt}
use Rattle.std.proofs.lemmas.Cmp.{upto, tied_itself, nat_cmp_total}
use Rattle.std.proofs.lemmas.List.Elements.{filter-append}
use Rattle.dns_name.specs.Name.{is_same, canonical_cmp}
use Rattle.dns_rdata.specs.Record.{Record, owner_of, rtype_of}
use Rattle.shared_tree.specs.Pairs.{IsAscending, value_at, pair_at, pairs_above}
use Rattle.shared_tree.proofs.PairLemmas.{none_at_below, each_passes, each_behind}
use Rattle.zone_tree.specs.Sets.{records_in, set_cmp, IsSetBefore, AreAscending, sets_in}
use Rattle.zone_tree.specs.Filed.{Filed, sets_under, records_under, IsFiled, AreFiled, items_of}
use Rattle.zone_tree.specs.From.{is_upto, records_from, DoTypesAscend}
use Rattle.zone_tree.proofs.NameOrder.{canonical_total, tie_from_same, keys_cmp, key as name_key}
use Rattle.zone_tree.proofs.Rising.{each_weaker, each_both, each_always, Rises, Rises-filter, rises_from_pairs, pairs_from_rises, filter_alike, filter_part}
use Rattle.zone_tree.proofs.SetLemmas.{set_total, less, filter_by_sets}
use Rattle.zone_tree.proofs.ZoneLemmas.{kept_whole}
use Rattle.zone_tree.proofs.WalkLemmas.{sets_from_whole}
use Rattle.zone_tree.proofs.FiledLemmas.{sets_at_key}

-- what a weaker test keeps of a list is enough for a stronger one
filter_within : {X : Type 0} (p q : X → Bool) → ((x : X) → q x ≡ true → p x ≡ true) → (xs : List X) → filter q (filter p xs) ≡ filter q xs
filter_within p q sub [] = refl
filter_within {X} p q sub (x ∷ xs) = by (p x) refl (q x) refl (filter_within p q sub xs)
  where
    by : (b : Bool) → p x ≡ b → (c : Bool) → q x ≡ c → filter q (filter p xs) ≡ filter q xs → filter q (cond b (x ∷ filter p xs) (filter p xs)) ≡ cond c (x ∷ filter q xs) (filter q xs)
    by true e true f more = rw f (ap (λ l. x ∷ l) more)
    by true e false f more = rw f more
    by false e true f more = absurd (true≢false (sym (sub x f) ∙ e))
    by false e false f more = more

not_gt : (o : Ordering) → is_le o ≡ true → is_gt o ≡ false
not_gt Less e = refl
not_gt Equal e = refl
not_gt Greater e = absurd (true≢false (sym e))

upto_from : (o : Ordering) → is_gt o ≡ false → is_le o ≡ true
upto_from Less e = refl
upto_from Equal e = refl
upto_from Greater e = absurd (true≢false e)

lower_not : (o : Ordering) → is_lt o ≡ true → is_le (ordering_reverse o) ≡ false
lower_not Less e = refl
lower_not Equal e = absurd (true≢false (sym e))
lower_not Greater e = absurd (true≢false (sym e))

other_upto : (o : Ordering) → is_lt o ≡ false → is_le (ordering_reverse o) ≡ true
other_upto Less e = absurd (true≢false e)
other_upto Equal e = refl
other_upto Greater e = refl

module _ (owner : List (List ℕ)) (rtype : ℕ) where
  -- whether the owner and the type stand at a set's or before them, and whether the type alone does
  abbrev pub is_present : List Record → Bool
  is_present set = is_le (ordering_then (canonical_cmp owner (owner_of set)) (nat_cmp rtype (rtype_of set)))

  abbrev pub of_type : List Record → Bool
  of_type set = is_le (nat_cmp rtype (rtype_of set))

  -- the sets of one owner, by where the owner that is asked for stands to it
  at_name : (name : List (List ℕ)) (o : Ordering) (set : List Record) → canonical_cmp owner name ≡ o → owner_of set ≡ name → is_present set ≡ is_le (ordering_then o (nat_cmp rtype (rtype_of set)))
  at_name name o set e own = ap (λ n. is_le (ordering_then (canonical_cmp owner n) (nat_cmp rtype (rtype_of set)))) own ∙ ap (λ c. is_le (ordering_then c (nat_cmp rtype (rtype_of set)))) e

  own_less : (name : List (List ℕ)) (sets : List (List Record)) → canonical_cmp owner name ≡ Less → AllByRecursion (λ set. owner_of set ≡ name) sets → filter is_present sets ≡ sets
  own_less name sets e h = filter_alike is_present true sets (each_weaker (λ set. owner_of set ≡ name) (λ set. is_present set ≡ true) (λ set o. at_name name Less set e o) sets h)

  own_greater : (name : List (List ℕ)) (sets : List (List Record)) → canonical_cmp owner name ≡ Greater → AllByRecursion (λ set. owner_of set ≡ name) sets → filter is_present sets ≡ []
  own_greater name sets e h = filter_alike is_present false sets (each_weaker (λ set. owner_of set ≡ name) (λ set. is_present set ≡ false) (λ set o. at_name name Greater set e o) sets h)

  own_equal : (name : List (List ℕ)) (sets : List (List Record)) → canonical_cmp owner name ≡ Equal → AllByRecursion (λ set. owner_of set ≡ name) sets → filter is_present sets ≡ filter of_type sets
  own_equal name [] e h = refl
  own_equal name (set ∷ sets) e h =
      let same : is_present set ≡ of_type set = at_name name Equal set e h.0 in
      let more = own_equal name sets e h.1 in
      λ i. cond (same i) (set ∷ more i) (more i)

  abbrev From : List Filed → Type 0
  From pairs = filter is_present (sets_under pairs) ≡ filter of_type (items_of (value_at canonical_cmp owner pairs)) ++ sets_under (pairs_above canonical_cmp owner pairs)

  from_by : (o : Ordering) (pair : Filed) (pairs : List Filed) → canonical_cmp owner pair.0 ≡ o → IsFiled pair → AllByRecursion (λ other. canonical_cmp pair.0 other.0 ≡ Less) pairs → From pairs → From (pair ∷ pairs)
  from_by Less pair pairs e filed before more =
      let none : pair_at canonical_cmp owner pairs ≡ None = none_at_below canonical_cmp owner pairs (each_weaker (λ other. canonical_cmp pair.0 other.0 ≡ Less) (λ other. canonical_cmp owner other.0 ≡ Less) (λ other f. canonical_total.trans owner pair.0 other.0 e f) pairs before) in
      let own = own_less pair.0 pair.1.items e filed.own in
      filter-append is_present pair.1.items (sets_under pairs) ∙ (λ i. own i ++ more i) ∙ rw (e, none) refl
  from_by Equal pair pairs e filed before more =
      let none : pair_at canonical_cmp owner pairs ≡ None = none_at_below canonical_cmp owner pairs (each_weaker (λ other. canonical_cmp pair.0 other.0 ≡ Less) (λ other. canonical_cmp owner other.0 ≡ Less) (λ other f. canonical_total.congr owner pair.0 other.0 e ∙ f) pairs before) in
      let own = own_equal pair.0 pair.1.items e filed.own in
      filter-append is_present pair.1.items (sets_under pairs) ∙ (λ i. own i ++ more i) ∙ rw (e, none) refl
  from_by Greater pair pairs e filed before more =
      let own = own_greater pair.0 pair.1.items e filed.own in
      filter-append is_present pair.1.items (sets_under pairs) ∙ (λ i. own i ++ more i) ∙ rw e refl

  from_owners : (pairs : List Filed) → AllByRecursion IsFiled pairs → IsAscending canonical_cmp pairs → From pairs
  from_owners [] h k = refl
  from_owners (pair ∷ pairs) h k = from_by (canonical_cmp owner pair.0) pair pairs refl h.0 k.0 (from_owners pairs h.1 k.1)

  -- what stands behind one of these sets is what is there from its owner and type on
  abbrev key : List Record
  key = record { owner = owner; rtype = rtype; ttl = 0; rdata = [] } ∷ []

  pub records_of_from : (sets : List (List Record)) → AreAscending sets → records_in (filter is_present sets) ≡ records_from (records_in sets) owner rtype
  records_of_from sets h = sym (filter_by_sets (λ o t. is_le (ordering_then (canonical_cmp owner o) (nat_cmp rtype t))) sets h.each)

  pub sets_of_from : (sets : List (List Record)) → AreAscending sets → filter is_present sets ≡ sets_in (records_from (records_in sets) owner rtype)
  sets_of_from sets h = sym (sets_from_whole (records_in sets) (filter is_present sets) (kept_whole sets h is_present)) ∙ ap sets_in (records_of_from sets h)

-- of sets that ascend, those from one of them on
from_one : (front rest : List (List Record)) (set : List Record) → Rises IsSetBefore (front ++ set ∷ rest) → filter (is_present (owner_of set) (rtype_of set)) (front ++ set ∷ rest) ≡ set ∷ rest
from_one [] rest set h =
    filter_alike (is_present (owner_of set) (rtype_of set)) true (set ∷ rest)
    (ap is_le (tied_itself set_total set), each_weaker (IsSetBefore set) (λ other. is_present (owner_of set) (rtype_of set) other ≡ true) (λ other k. ap is_le (less (set_cmp set other) k)) rest h.0)
from_one (first ∷ front) rest set h =
    let before = (each_behind (IsSetBefore first) front (set ∷ rest) h.0).0 in
    let passed : is_present (owner_of set) (rtype_of set) first ≡ false = ap is_le (set_total.antisymm set first ∙ ap ordering_reverse (less (set_cmp first set) before)) in
    rw passed (from_one front rest set h.1)

pub rest_of_from : (owner : List (List ℕ)) (rtype : ℕ) (sets : List (List Record)) → AreAscending sets → (front rest : List (List Record)) (set : List Record) → filter (is_present owner rtype) sets ≡ front ++ set ∷ rest
    → records_from (records_in sets) (owner_of set) (rtype_of set) ≡ records_in (set ∷ rest)
rest_of_from owner rtype sets h front rest set is =
    let p = is_present owner rtype in
    let q = is_present (owner_of set) (rtype_of set) in
    let here : p set ≡ true = (each_behind (λ s. p s ≡ true) front (set ∷ rest) (subst (AllByRecursion (λ s. p s ≡ true)) is (each_passes p sets))).0 in
    let sub : (other : List Record) → q other ≡ true → p other ≡ true =
    λ other e. upto_from (set_cmp (key owner rtype) other) (upto set_total (key owner rtype) set other (not_gt (set_cmp (key owner rtype) set) here) (not_gt (set_cmp set other) e)) in
    let rising = subst (Rises IsSetBefore) is (Rises-filter p IsSetBefore sets (rises_from_pairs IsSetBefore sets h.ascending)) in
    sym (records_of_from (owner_of set) (rtype_of set) sets h)
    ∙ ap records_in (sym (filter_within p q sub sets) ∙ ap (filter q) is ∙ from_one front rest set rising)

-- the same by the name that is sought, which stands to all owners as the owner does
module _ (sought owner : List (List ℕ)) (rtype : ℕ) (alike : (other : List (List ℕ)) → canonical_cmp sought other ≡ canonical_cmp owner other) (pairs : List Filed) (h : AreFiled pairs) where
  walked : filter (of_type sought rtype) (items_of (value_at canonical_cmp sought pairs)) ++ sets_under (pairs_above canonical_cmp sought pairs) ≡ filter (is_present owner rtype) (sets_under pairs)
  walked = sym (from_owners sought rtype pairs h.each h.ascends) ∙ (λ i. filter (λ (set : List Record). is_le (ordering_then (alike (owner_of set) i) (nat_cmp rtype (rtype_of set)))) (sets_under pairs))

  pub walked_sets : filter (of_type sought rtype) (items_of (value_at canonical_cmp sought pairs)) ++ sets_under (pairs_above canonical_cmp sought pairs) ≡ sets_in (records_from (records_under pairs) owner rtype)
  walked_sets = walked ∙ sets_of_from owner rtype (sets_under pairs) h.rising

  pub walked_records : records_in (filter (of_type sought rtype) (items_of (value_at canonical_cmp sought pairs)) ++ sets_under (pairs_above canonical_cmp sought pairs)) ≡ records_from (records_under pairs) owner rtype
  walked_records = ap records_in walked ∙ records_of_from owner rtype (sets_under pairs) h.rising

  pub walked_rest : (front rest : List (List Record)) (set : List Record) → filter (of_type sought rtype) (items_of (value_at canonical_cmp sought pairs)) ++ sets_under (pairs_above canonical_cmp sought pairs) ≡ front ++ set ∷ rest
      → records_from (records_under pairs) (owner_of set) (rtype_of set) ≡ records_in (set ∷ rest)
  walked_rest front rest set is = rest_of_from owner rtype (sets_under pairs) h.rising front rest set (sym walked ∙ is)

-- the types of one owner's sets ascend
rises_with : {X : Type 0} (P : X → Type 0) (R Q : X → X → Type 0) → ((x y : X) → P x → P y → R x y → Q x y) → (xs : List X) → AllByRecursion P xs → Rises R xs → Rises Q xs
rises_with P R Q f [] h k = tt
rises_with {X} P R Q f (x ∷ xs) h k = (
  each_weaker (λ y. P y × R x y) (Q x) (λ y m. f x y h.0 m.0 m.1) xs (each_both P (R x) xs h.1 k.0),
  rises_with P R Q f xs h.1 k.1,
)

type_less : (name : List (List ℕ)) (set other : List Record) → is_same (owner_of set) name ≡ true → is_same (owner_of other) name ≡ true → IsSetBefore set other → is_lt (nat_cmp (rtype_of set) (rtype_of other)) ≡ true
type_less name set other e f before =
    let tied : canonical_cmp (owner_of set) (owner_of other) ≡ Equal = canonical_total.congr (owner_of set) name (owner_of other) (tie_from_same (owner_of set) name e) ∙ canonical_total.antisymm name (owner_of other) ∙ ap ordering_reverse (tie_from_same (owner_of other) name f) in
    rw tied at before

pub types_ascend : (pairs : List Filed) → AreFiled pairs → (name : List (List ℕ)) → DoTypesAscend (items_of (value_at canonical_cmp name pairs))
types_ascend pairs h name =
    let p : List Record → Bool = λ set. is_same (owner_of set) name in
    let rising = Rises-filter p IsSetBefore (sets_under pairs) (rises_from_pairs IsSetBefore (sets_under pairs) h.rising.ascending) in
    let types = rises_with (λ set. p set ≡ true) IsSetBefore (λ set other. is_lt (nat_cmp (rtype_of set) (rtype_of other)) ≡ true) (type_less name) (filter p (sets_under pairs)) (each_passes p (sets_under pairs)) rising in
    subst DoTypesAscend (sets_at_key pairs h name) (pairs_from_rises (λ set other. is_lt (nat_cmp (rtype_of set) (rtype_of other)) ≡ true) (filter p (sets_under pairs)) types)

-- so those of lower types are a front of them, and the others what is behind it
pub types_parted : (sets : List (List Record)) → DoTypesAscend sets → (rtype : ℕ) → IsPartitionedBy (λ set. is_lt (nat_cmp (rtype_of set) rtype)) sets
types_parted sets h rtype i j d l m e =
    ⊎_elim
    (λ lt. ap is_lt (nat_cmp_total.trans (rtype_of (get_or sets i d)) (rtype_of (get_or sets j d)) rtype (less (nat_cmp (rtype_of (get_or sets i d)) (rtype_of (get_or sets j d))) (h i j d lt m)) (less (nat_cmp (rtype_of (get_or sets j d)) rtype) e)))
    (λ ge. let same : j ≡ i = omega arith in subst (λ k. is_lt (nat_cmp (rtype_of (get_or sets k d)) rtype) ≡ true) same e)
    (cases_lt i j)

pub types_from : (sets : List (List Record)) (rtype low : ℕ) → low ≤ length sets → IsPartitionPoint (λ set. is_lt (nat_cmp (rtype_of set) rtype) ≡ true) (λ set. is_lt (nat_cmp (rtype_of set) rtype) ≡ false) sets low
    → filter (λ set. is_le (nat_cmp rtype (rtype_of set))) sets ≡ take (length sets - low) (drop low sets)
types_from sets rtype low within point =
    filter_part (λ set. is_le (nat_cmp rtype (rtype_of set))) sets low (length sets) within (omega arith)
    (λ k d a b. ap is_le (nat_cmp_total.antisymm rtype (rtype_of (get_or sets k d))) ∙ lower_not (nat_cmp (rtype_of (get_or sets k d)) rtype) (point.0 k d a b))
    (λ k d a b. ap is_le (nat_cmp_total.antisymm rtype (rtype_of (get_or sets k d))) ∙ other_upto (nat_cmp (rtype_of (get_or sets k d)) rtype) (point.1 k d a b))
    (λ k d a b. absurd (omega arith))

-- from the root and type 0 on there are all records
zero_upto : (t : ℕ) → is_le (nat_cmp 0 t) ≡ true
zero_upto zero = refl
zero_upto (suc t) = ap is_le (sym (nat_cmp_is 0 (suc t) Less (omega arith)))

least : (ks : List (List ℕ)) (t : ℕ) → is_le (ordering_then (keys_cmp [] ks) (nat_cmp 0 t)) ≡ true
least [] t = zero_upto t
least (k ∷ ks) t = refl

pub from_root : (zone : List Record) → records_from zone [] 0 ≡ zone
from_root zone = filter_alike (is_upto [] 0) true zone (each_always (λ r. is_upto [] 0 r ≡ true) (λ r. least (name_key r.owner) r.rtype) zone)
