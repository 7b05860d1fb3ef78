-- Facts on the steps that try a zone's rules.
use Rattle.std.proofs.Common.{◌≡◌, refl, sym, ap, ◌∙◌, subst, ℕ, zero, suc, ◌+◌, ◌-◌, ◌<◌, ◌≤◌, Bool, true, false, List, [], ◌∷◌, map, length, get_or, take, drop, arith, length-append, append-nil, true≢false, Option, Some, None, cond, ◌||◌, ltb-true, ltb-false}
use Rattle.std.specs.Prelude.{◌==◌, nat_lt, not}
use Rattle.std.specs.Option.{MatchOption}
use Rattle.std.proofs.lemmas.List.{length-map, get_or_read}
use Rattle.std.specs.List.{filter, list_any, position, position_or_len, AllPairs, AllAdjacentBelow, All}
use Rattle.std.specs.Ordering.{is_lt}
use Rattle.std.proofs.lemmas.Cmp.{tied_itself, nat_cmp_total}
use Rattle.std.proofs.lemmas.List.Elements.{All-from_recursion, All-filter}
use Rattle.dns_rdata.specs.Data.{Data}
use Rattle.dns_rdata.specs.Numbers.{type_SOA}
use Rattle.dns_rdata.specs.Record.{Record, IsLawful, records_with, owner_of, rtype_of, ttl_of, IsSet, IsBefore as IsDataBefore}
use Rattle.zone_tree.specs.Zone.{IsBefore, soa_of}
use Rattle.zone_tree.specs.Sets.{records_in, set_cmp, IsSetBefore, IsOf, IsRRset, AreAscending}
use Rattle.zone_tree.proofs.NameOrder.{canonical_total}
use Rattle.zone_tree.proofs.Rising.{Rises-map, each_map, each_always, rises_weaker, rises_from_pairs, rises_from_adjacent, pairs_from_rises}
use Rattle.zone_tree.proofs.SetLemmas.{filter_by_sets, before_chains}

-- a record of an owner, a type and a TTL
abbrev with_data : List (List ℕ) → ℕ → ℕ → Data → Record
with_data owner rtype ttl d = record { owner = owner; rtype = rtype; ttl = ttl; rdata = d.octets }

-- data in ascending order make records in ascending order
data_before : (owner : List (List ℕ)) (rtype ttl : ℕ) (c d : Data) → IsDataBefore c d → IsBefore (with_data owner rtype ttl c) (with_data owner rtype ttl d)
data_before owner rtype ttl c d h = rw (tied_itself canonical_total owner, tied_itself nat_cmp_total rtype) h

-- records of a set's data are a set
pub rrset_from_data : (set : List Record) (ds : List Data) → set ≡ records_with (owner_of set) (rtype_of set) (ttl_of set) ds → IsSet (owner_of set) (rtype_of set) (ttl_of set) ds → All IsLawful set → All (λ r. length r.rdata ≤ 4096) set → IsRRset set
rrset_from_data set ds e lawful each short =
    let f = with_data (owner_of set) (rtype_of set) (ttl_of set) in
    let long : length set ≡ length ds = ap length e ∙ length-map ds f in
    record {
      some = omega (arith, lawful.some);
      few = omega (arith, lawful.few);
      shared = subst (All (IsOf set)) (sym e) (All-from_recursion (IsOf set) (map f ds) (each_map (IsOf set) f ds (each_always (λ d. IsOf set (f d)) (λ d. record { owner = refl; rtype = refl; ttl = refl }) ds)));
      lawful = each;
      short = short;
      ascending = subst (AllPairs IsBefore) (sym e) (pairs_from_rises IsBefore (map f ds) (Rises-map IsBefore f ds (rises_weaker IsDataBefore (λ c d. IsBefore (f c) (f d)) (data_before (owner_of set) (rtype_of set) (ttl_of set)) ds (rises_from_pairs IsDataBefore ds lawful.ascending))));
    }

-- the records of one more set, and of the first sets
pub length-records_more : (sets : List (List Record)) (i : ℕ) (set : List Record) → i < length sets → set ≡ get_or sets i set → length (records_in (take (i + 1) sets)) ≡ length (records_in (take i sets)) + length set
length-records_more [] i set l e = omega arith
length-records_more (s ∷ sets) zero set l e = omega (arith, ap length (append-nil s), ap length e)
length-records_more (s ∷ sets) (suc i) set l e =
    let more : suc i + 1 ≡ suc (i + 1) = omega arith in
    rw more (omega (arith, length-records_more sets i set (omega arith) e, length-append s (records_in (take (i + 1) sets)), length-append s (records_in (take i sets))))

pub length-records_upto : (sets : List (List Record)) (i : ℕ) → length (records_in (take i sets)) ≤ length (records_in sets)
length-records_upto [] zero = omega arith
length-records_upto [] (suc i) = omega arith
length-records_upto (s ∷ sets) zero = omega arith
length-records_upto (s ∷ sets) (suc i) = omega (arith, length-records_upto sets i, length-append s (records_in (take i sets)), length-append s (records_in sets))

-- what a filter keeps, by the place of the first that passes
module _ {X : Type 0} (p : X → Bool) where
  filter_by_place : (xs : List X) (d : X) → position_or_len p xs < length xs → filter p xs ≡ get_or xs (position_or_len p xs) d ∷ filter p (drop (position_or_len p xs + 1) xs)
  filter_by_place [] d l = absurd (omega arith)
  filter_by_place (x ∷ xs) d l = by (p x) l (filter_by_place xs d)
    where
      by : (b : Bool) → cond (not b) (1 + position_or_len p xs) 0 < length (x ∷ xs) → (position_or_len p xs < length xs → filter p xs ≡ get_or xs (position_or_len p xs) d ∷ filter p (drop (position_or_len p xs + 1) xs))
          → cond b (x ∷ filter p xs) (filter p xs) ≡ get_or (x ∷ xs) (cond (not b) (1 + position_or_len p xs) 0) d ∷ filter p (drop (cond (not b) (1 + position_or_len p xs) 0 + 1) (x ∷ xs))
      by true l more = refl
      by false l more =
          let e : 1 + position_or_len p xs ≡ suc (position_or_len p xs) = omega arith in
          let f : 1 + position_or_len p xs + 1 ≡ suc (position_or_len p xs + 1) = omega arith in
          rw (f, e) (more (omega arith))

  filter_no_place : (xs : List X) → length xs ≤ position_or_len p xs → filter p xs ≡ []
  filter_no_place [] l = refl
  filter_no_place (x ∷ xs) l = by (p x) l (filter_no_place xs)
    where
      by : (b : Bool) → length (x ∷ xs) ≤ cond (not b) (1 + position_or_len p xs) 0 → (length xs ≤ position_or_len p xs → filter p xs ≡ []) → cond b (x ∷ filter p xs) (filter p xs) ≡ []
      by true l more = absurd (omega arith)
      by false l more = more (omega arith)

  abbrev Places : List X → Option ℕ → Type 0
  Places xs o = MatchOption o (filter p xs ≡ []) (λ at. (at < length xs) × ((d : X) → filter p xs ≡ get_or xs at d ∷ filter p (drop (at + 1) xs)))

  pub filter_by_position : (xs : List X) (o : Option ℕ) → o ≡ position p xs → Places xs o
  filter_by_position xs o e = subst (Places xs) (sym e) (by (nat_lt (position_or_len p xs) (length xs)) refl)
    where
      by : (b : Bool) → nat_lt (position_or_len p xs) (length xs) ≡ b → Places xs (cond b (Some (position_or_len p xs)) None)
      by true h = let l = ltb-true (position_or_len p xs) (length xs) h in (l, λ d. filter_by_place xs d l)
      by false h = filter_no_place xs (ltb-false (position_or_len p xs) (length xs) h)

  -- and where none passes, or some does
  pub filter_none : (xs : List X) → list_any p xs ≡ false → filter p xs ≡ []
  filter_none [] h = refl
  filter_none (x ∷ xs) h = by (p x) h (filter_none xs)
    where
      by : (b : Bool) → b || list_any p xs ≡ false → (list_any p xs ≡ false → filter p xs ≡ []) → cond b (x ∷ filter p xs) (filter p xs) ≡ []
      by true h more = absurd (true≢false h)
      by false h more = more h

  pub some_kept : (xs : List X) → list_any p xs ≡ true → 0 < length (filter p xs)
  some_kept [] h = absurd (true≢false (sym h))
  some_kept (x ∷ xs) h = by (p x) h (some_kept xs)
    where
      by : (b : Bool) → b || list_any p xs ≡ true → (list_any p xs ≡ true → 0 < length (filter p xs)) → 0 < length (cond b (x ∷ filter p xs) (filter p xs))
      by true h more = omega arith
      by false h more = more h

-- there are no fewer records than sets
pub length-records_each : (sets : List (List Record)) → All (λ set. 0 < length set) sets → length sets ≤ length (records_in sets)
length-records_each [] h = omega arith
length-records_each (set ∷ sets) h =
    let some : 0 < length set = h 0 set (omega arith) in
    omega (arith, length-append set (records_in sets), length-records_each sets (λ k d l. h (suc k) d (omega arith)))

-- the records of type SOA are those of the sets of that type
abbrev soa_sets : List (List Record) → List (List Record)
soa_sets sets = filter (λ set. rtype_of set == type_SOA) sets

soa_by_sets : (sets : List (List Record)) → AreAscending sets → soa_of (records_in sets) ≡ records_in (soa_sets sets)
soa_by_sets sets rising = filter_by_sets (λ _ t. t == type_SOA) sets rising.each

pub soa_none : (sets : List (List Record)) → AreAscending sets → None ≡ position (λ set. rtype_of set == type_SOA) sets → soa_of (records_in sets) ≡ []
soa_none sets rising e = soa_by_sets sets rising ∙ ap records_in (filter_by_position (λ set. rtype_of set == type_SOA) sets None e)

module _ (sets : List (List Record)) (rising : AreAscending sets) (at : ℕ) (here : Some at ≡ position (λ set. rtype_of set == type_SOA) sets) where
  placed : (at < length sets) × ((d : List Record) → soa_sets sets ≡ get_or sets at d ∷ soa_sets (drop (at + 1) sets))
  placed = filter_by_position (λ set. rtype_of set == type_SOA) sets (Some at) here

  pub soa_within : at < length sets
  soa_within = placed.0

  -- one set of the type
  pub soa_one_set : list_any (λ set. rtype_of set == type_SOA) (drop (at + 1) sets) ≡ false → (d : List Record) → get_or sets at d ≡ soa_of (records_in sets)
  soa_one_set none d =
      sym (soa_by_sets sets rising ∙ ap records_in (placed.1 d ∙ ap (λ l. get_or sets at d ∷ l) (filter_none (λ set. rtype_of set == type_SOA) (drop (at + 1) sets) none)) ∙ append-nil (get_or sets at d))

  -- another set of the type, or a set of it with more than one record
  pub soa_two_sets : list_any (λ set. rtype_of set == type_SOA) (drop (at + 1) sets) ≡ true → 1 < length (soa_of (records_in sets))
  soa_two_sets any =
      let two : 1 < length (soa_sets sets) = omega (arith, ap length (placed.1 []), some_kept (λ set. rtype_of set == type_SOA) (drop (at + 1) sets) any) in
      omega (arith, ap length (soa_by_sets sets rising), length-records_each (soa_sets sets) (All-filter (λ set. rtype_of set == type_SOA) (λ set. 0 < length set) sets (λ k d l. (rising.each k d l).some)))

  pub soa_large : 1 < length (get_or sets at []) → 1 < length (soa_of (records_in sets))
  soa_large l =
      omega (arith, ap length (soa_by_sets sets rising ∙ ap records_in (placed.1 [])), length-append (get_or sets at []) (records_in (soa_sets (drop (at + 1) sets))))

-- a set that isn't before the one that follows it shows that the sets don't ascend
pub not_ascending : (sets : List (List Record)) (i : ℕ) (set other : List Record) → 0 < i → i < length sets → set ≡ get_or sets (i - 1) set → other ≡ get_or sets i other → is_lt (set_cmp set other) ≡ false → AllPairs IsSetBefore sets → ⊥
not_ascending sets i set other some within e f h pairs =
    let before = pairs (i - 1) i set (omega arith) within in
    let second : other ≡ get_or sets i set = get_or_read sets i other within f set in
    true≢false (sym before ∙ ap is_lt (ap (λ s. set_cmp s (get_or sets i set)) (sym e) ∙ ap (set_cmp set) (sym second)) ∙ h)

-- sets of which each comes before the next are in ascending order
pub ascending_from_adjacent : (sets : List (List Record)) (n : ℕ) → All IsRRset sets → length sets ≤ n → AllAdjacentBelow IsSetBefore sets n → AreAscending sets
ascending_from_adjacent sets n each l h = record {
  each = each;
  ascending = pairs_from_rises IsSetBefore sets (rises_from_adjacent IsSetBefore before_chains sets (λ k d m. h k d (omega arith)));
}
