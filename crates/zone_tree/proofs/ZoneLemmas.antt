-- When sets make a zone, and why sets that break a rule make none.
use Rattle.std.proofs.Common.{◌≡◌, refl, sym, ap, ◌∙◌, ℕ, zero, suc, ◌+◌, ◌<◌, ◌≤◌, Bool, true, false, ◌&&◌, ◌||◌, List, [], ◌∷◌, ◌++◌, length, get_or, true≢false, arith, eq-eqb, append-nil, ⊎_elim, inl, inr, ◌⊎◌}
use Rattle.std.specs.Prelude.{◌==◌, not}
use Rattle.std.specs.declared.cmp.Ordering.{Ordering}
use Rattle.std.specs.declared.cmp.Ordering.TheVariants.{Less, Equal, Greater}
use Rattle.std.specs.List.{filter, All, AllPairs, AllByRecursion}
use Rattle.std.specs.Ordering.{nat_cmp, is_lt, ordering_then}
use Rattle.std.specs.Cmp.Lexicographic.{slice_cmp}
use Rattle.std.proofs.lemmas.Cmp.{ranked}
use Rattle.std.proofs.lemmas.List.Elements.{All-from_recursion, recursion_from_All}
use Rattle.dns_name.specs.Name.{is_same, canonical_cmp}
use Rattle.dns_rdata.specs.Record.{Record, IsLawful, owner_of, rtype_of}
use Rattle.zone_tree.specs.Zone.{IsBefore, rrset_of, is_of, share_ttl}
use Rattle.zone_tree.specs.Sets.{records_in, IsSetBefore, IsOf, IsRRset, AreAscending, AreUnsplit, AreWhole}
use Rattle.zone_tree.proofs.NameOrder.{same_from_tie, same_from_folds}
use Rattle.zone_tree.proofs.Rising.{each_weaker, each_append, Rises, Rises-append, Rises-behind, pairs_from_rises, rises_from_pairs, each_joined, each_both, each_filter, Rises-filter, filter_alike}
use Rattle.zone_tree.proofs.LookLemmas.{not_both}
use Rattle.zone_tree.proofs.SetLemmas.{filter_by_sets, some_each}

-- a record of a set that is before another comes before the records of the other
before_by : (o p q : Ordering) → is_lt (ordering_then o p) ≡ true → is_lt (ordering_then o (ordering_then p q)) ≡ true
before_by Less p q h = refl
before_by Equal Less q h = refl
before_by Equal Equal q h = absurd (true≢false (sym h))
before_by Equal Greater q h = absurd (true≢false (sym h))
before_by Greater p q h = absurd (true≢false (sym h))

set_before : (set other : List Record) (r s : Record) → IsSetBefore set other → IsOf set r → IsOf other s → IsBefore r s
set_before set other r s h m n =
    rw (m.owner, n.owner, m.rtype, n.rtype)
    (before_by (canonical_cmp (owner_of set) (owner_of other)) (nat_cmp (rtype_of set) (rtype_of other)) (slice_cmp nat_cmp r.rdata s.rdata) h)

-- what stands in a relation of two records of sets, the second behind the first, stands so of all records behind a set
behind_by : (R : Record → Record → Type 0) → (set : List Record) → ((other : List Record) (r s : Record) → IsSetBefore set other → IsOf set r → IsOf other s → R r s)
    → (others : List (List Record)) → AllByRecursion IsRRset others → AllByRecursion (IsSetBefore set) others → (r : Record) → IsOf set r → AllByRecursion (R r) (records_in others)
behind_by R set f [] a b r m = tt
behind_by R set f (other ∷ others) a b r m =
    each_append (R r) other (records_in others) (each_weaker (IsOf other) (R r) (λ s n. f other r s b.0 m n) other (recursion_from_All (IsOf other) other a.0.shared)) (behind_by R set f others a.1 b.1 r m)

-- the records of sets in ascending order are in ascending order
rises_by : (sets : List (List Record)) → AllByRecursion IsRRset sets → Rises IsSetBefore sets → Rises IsBefore (records_in sets)
rises_by [] h k = tt
rises_by (set ∷ sets) h k =
    Rises-append IsBefore set (records_in sets) (rises_from_pairs IsBefore set h.0.ascending) (rises_by sets h.1 k.1)
    (each_weaker (IsOf set) (λ r. AllByRecursion (IsBefore r) (records_in sets)) (behind_by IsBefore set (set_before set) sets h.1 k.0) set (recursion_from_All (IsOf set) set h.0.shared))

pub records_ascend : (sets : List (List Record)) → AreAscending sets → AllPairs IsBefore (records_in sets)
records_ascend sets h = pairs_from_rises IsBefore (records_in sets) (rises_by sets (recursion_from_All IsRRset sets h.each) (rises_from_pairs IsSetBefore sets h.ascending))

-- what holds of each record of each set holds of each record
records_each : (P : Record → Type 0) → ((set : List Record) → IsRRset set → All P set) → (sets : List (List Record)) → AreAscending sets → All P (records_in sets)
records_each P each sets h =
    All-from_recursion P (records_in sets)
    (each_joined P sets (each_weaker IsRRset (AllByRecursion P) (λ set k. recursion_from_All P set (each set k)) sets (recursion_from_All IsRRset sets h.each)))

pub records_lawful : (sets : List (List Record)) → AreAscending sets → All IsLawful (records_in sets)
records_lawful = records_each IsLawful (λ set k. k.lawful)

pub records_short : (sets : List (List Record)) → AreAscending sets → All (λ r. length r.rdata ≤ 4096) (records_in sets)
records_short = records_each (λ r. length r.rdata ≤ 4096) (λ set k. k.short)

-- a set has its own owner and type, and no set before or behind it has both
own_test : (set : List Record) → is_same (owner_of set) (owner_of set) && rtype_of set == rtype_of set ≡ true
own_test set = rw (same_from_folds (owner_of set) (owner_of set) refl, eq-eqb (rtype_of set) (rtype_of set) refl) refl

apart_behind : (set other : List Record) → IsSetBefore set other → is_same (owner_of other) (owner_of set) && rtype_of other == rtype_of set ≡ false
apart_behind set other h = not_both (owner_of set) (rtype_of set) set other h (own_test set)

apart_before : (set other : List Record) → IsSetBefore set other → is_same (owner_of set) (owner_of other) && rtype_of set == rtype_of other ≡ false
apart_before set other h = by (is_same (owner_of set) (owner_of other) && rtype_of set == rtype_of other) refl
  where
    by : (b : Bool) → (is_same (owner_of set) (owner_of other) && rtype_of set == rtype_of other) ≡ b → b ≡ false
    by true e = absurd (true≢false (sym (own_test other) ∙ not_both (owner_of other) (rtype_of other) set other h e))
    by false e = refl

-- one TTL in a set
share_same : (set : List Record) (r s : Record) → IsOf set r → IsOf set s → share_ttl r s ≡ true
share_same set r s m n = by (not (is_of s.owner s.rtype r)) (eq-eqb r.ttl s.ttl (m.ttl ∙ sym n.ttl))
  where
    by : (b : Bool) → (r.ttl == s.ttl) ≡ true → (b || r.ttl == s.ttl) ≡ true
    by true e = refl
    by false e = e

share_apart : (r s : Record) → is_of s.owner s.rtype r ≡ false → share_ttl r s ≡ true
share_apart r s e = rw e refl

share_before : (set other : List Record) (r s : Record) → IsSetBefore set other → IsOf set r → IsOf other s → share_ttl r s ≡ true
share_before set other r s h m n = share_apart r s (rw (m.owner, n.owner, m.rtype, n.rtype) (apart_before set other h))

share_behind : (set other : List Record) (r s : Record) → IsSetBefore set other → IsOf set r → IsOf other s → share_ttl s r ≡ true
share_behind set other r s h m n = share_apart s r (rw (m.owner, n.owner, m.rtype, n.rtype) (apart_behind set other h))

-- two facts of a record and each of a list, the other way round
each_turned : (R : Record → Record → Type 0) (xs ys : List Record) → AllByRecursion (λ x. AllByRecursion (R x) ys) xs → AllByRecursion (λ y. AllByRecursion (λ x. R x y) xs) ys
each_turned R xs [] h = tt
each_turned R xs (y ∷ ys) h =
    (each_weaker (λ x. AllByRecursion (R x) (y ∷ ys)) (λ x. R x y) (λ x k. k.0) xs h, each_turned R xs ys (each_weaker (λ x. AllByRecursion (R x) (y ∷ ys)) (λ x. AllByRecursion (R x) ys) (λ x k. k.1) xs h))

shares_by : (sets : List (List Record)) → AllByRecursion IsRRset sets → Rises IsSetBefore sets → AllByRecursion (λ r. AllByRecursion (λ s. share_ttl r s ≡ true) (records_in sets)) (records_in sets)
shares_by [] h k = tt
shares_by (set ∷ sets) h k =
    let own = recursion_from_All (IsOf set) set h.0.shared in
    let after : AllByRecursion (λ r. AllByRecursion (λ s. share_ttl r s ≡ true) (records_in sets)) set =
    each_weaker (IsOf set) (λ r. AllByRecursion (λ s. share_ttl r s ≡ true) (records_in sets)) (λ r m. behind_by (λ r s. share_ttl r s ≡ true) set (share_before set) sets h.1 k.0 r m) set own in
    let back : AllByRecursion (λ s. AllByRecursion (λ r. share_ttl s r ≡ true) set) (records_in sets) =
    each_turned (λ r s. share_ttl s r ≡ true) set (records_in sets) (each_weaker (IsOf set) (λ r. AllByRecursion (λ s. share_ttl s r ≡ true) (records_in sets)) (λ r m. behind_by (λ r s. share_ttl s r ≡ true) set (share_behind set) sets h.1 k.0 r m) set own) in
    each_append (λ r. AllByRecursion (λ s. share_ttl r s ≡ true) (set ++ records_in sets)) set (records_in sets)
    (each_weaker (λ r. IsOf set r × AllByRecursion (λ s. share_ttl r s ≡ true) (records_in sets)) (λ r. AllByRecursion (λ s. share_ttl r s ≡ true) (set ++ records_in sets))
    (λ r m. each_append (λ s. share_ttl r s ≡ true) set (records_in sets) (each_weaker (IsOf set) (λ s. share_ttl r s ≡ true) (λ s n. share_same set r s m.0 n) set own) m.1)
    set (each_both (IsOf set) (λ r. AllByRecursion (λ s. share_ttl r s ≡ true) (records_in sets)) set own after))
    (each_weaker (λ r. AllByRecursion (λ s. share_ttl r s ≡ true) set × AllByRecursion (λ s. share_ttl r s ≡ true) (records_in sets)) (λ r. AllByRecursion (λ s. share_ttl r s ≡ true) (set ++ records_in sets))
    (λ r m. each_append (λ s. share_ttl r s ≡ true) set (records_in sets) m.0 m.1)
    (records_in sets) (each_both (λ r. AllByRecursion (λ s. share_ttl r s ≡ true) set) (λ r. AllByRecursion (λ s. share_ttl r s ≡ true) (records_in sets)) (records_in sets) back (shares_by sets h.1 k.1)))

pub records_share : (sets : List (List Record)) → AreAscending sets → All (λ r. All (λ s. share_ttl r s ≡ true) (records_in sets)) (records_in sets)
records_share sets h =
    All-from_recursion (λ r. All (λ s. share_ttl r s ≡ true) (records_in sets)) (records_in sets)
    (each_weaker (λ r. AllByRecursion (λ s. share_ttl r s ≡ true) (records_in sets)) (λ r. All (λ s. share_ttl r s ≡ true) (records_in sets)) (λ r m. All-from_recursion (λ s. share_ttl r s ≡ true) (records_in sets) m) (records_in sets)
    (shares_by sets (recursion_from_All IsRRset sets h.each) (rises_from_pairs IsSetBefore sets h.ascending)))

-- a test of one owner and type passes one set
own_only : (sets : List (List Record)) → Rises IsSetBefore sets → AllByRecursion (λ set. filter (λ u. is_same (owner_of u) (owner_of set) && rtype_of u == rtype_of set) sets ≡ set ∷ []) sets
own_only [] h = tt
own_only (set ∷ sets) h = (
  rw (own_test set) (ap (λ l. set ∷ l) (filter_alike (λ u. is_same (owner_of u) (owner_of set) && rtype_of u == rtype_of set) false sets
      (each_weaker (IsSetBefore set) (λ u. is_same (owner_of u) (owner_of set) && rtype_of u == rtype_of set ≡ false) (apart_behind set) sets h.0))),
  each_weaker (λ u. IsSetBefore set u × (filter (λ v. is_same (owner_of v) (owner_of u) && rtype_of v == rtype_of u) sets ≡ u ∷ [])) (λ u. filter (λ v. is_same (owner_of v) (owner_of u) && rtype_of v == rtype_of u) (set ∷ sets) ≡ u ∷ [])
      (λ u m. rw (apart_before set u m.0) m.1) sets (each_both (IsSetBefore set) (λ u. filter (λ v. is_same (owner_of v) (owner_of u) && rtype_of v == rtype_of u) sets ≡ u ∷ []) sets h.0 (own_only sets h.1)),
)

-- the records of a set's owner and type are the set's
pub own_rrset : (sets : List (List Record)) → AreAscending sets → AllByRecursion (λ set. rrset_of (records_in sets) (owner_of set) (rtype_of set) ≡ set) sets
own_rrset sets h =
    each_weaker (λ set. filter (λ u. is_same (owner_of u) (owner_of set) && rtype_of u == rtype_of set) sets ≡ set ∷ []) (λ set. rrset_of (records_in sets) (owner_of set) (rtype_of set) ≡ set)
    (λ set e. filter_by_sets (λ owner t. is_same owner (owner_of set) && t == rtype_of set) sets h.each ∙ ap records_in e ∙ append-nil set) sets (own_only sets (rises_from_pairs IsSetBefore sets h.ascending))

-- a zone's sets, and those that a filter keeps, are whole
module _ (sets : List (List Record)) (h : AreAscending sets) where
  abbrev zone : List Record
  zone = records_in sets

  abbrev Whole : List Record → Type 0
  Whole set = set ≡ rrset_of zone (owner_of set) (rtype_of set)

  whole_each : AllByRecursion Whole sets
  whole_each = each_weaker (λ set. rrset_of zone (owner_of set) (rtype_of set) ≡ set) Whole (λ set e. sym e) sets (own_rrset sets h)

  pub sets_whole : AreWhole (records_in sets) sets
  sets_whole = record {
    some = All-from_recursion (λ set. 0 < length set) sets (some_each sets h.each);
    whole = All-from_recursion Whole sets whole_each;
    ascending = h.ascending;
  }

  pub kept_whole : (p : List Record → Bool) → AreWhole (records_in sets) (filter p sets)
  kept_whole p = record {
    some = All-from_recursion (λ set. 0 < length set) (filter p sets) (each_filter p (λ set. 0 < length set) sets (some_each sets h.each));
    whole = All-from_recursion Whole (filter p sets) (each_filter p Whole sets whole_each);
    ascending = pairs_from_rises IsSetBefore (filter p sets) (Rises-filter p IsSetBefore sets (rises_from_pairs IsSetBefore sets h.ascending));
  }

-- so no set is too large
pub records_few : (sets : List (List Record)) → AreAscending sets → All (λ r. length (rrset_of (records_in sets) r.owner r.rtype) ≤ 256) (records_in sets)
records_few sets h =
    let zone = records_in sets in
    All-from_recursion (λ r. length (rrset_of zone r.owner r.rtype) ≤ 256) zone
    (each_joined (λ r. length (rrset_of zone r.owner r.rtype) ≤ 256) sets
    (each_weaker (λ set. IsRRset set × (rrset_of zone (owner_of set) (rtype_of set) ≡ set)) (AllByRecursion (λ r. length (rrset_of zone r.owner r.rtype) ≤ 256))
    (λ set k. each_weaker (IsOf set) (λ r. length (rrset_of zone r.owner r.rtype) ≤ 256) (λ r m. rw (m.owner, m.rtype, k.1) k.0.few) set (recursion_from_All (IsOf set) set k.0.shared))
    sets (each_both IsRRset (λ set. rrset_of zone (owner_of set) (rtype_of set) ≡ set) sets (recursion_from_All IsRRset sets h.each) (own_rrset sets h))))

-- a record is before another by its set, or their owners and types tie
lt_cases : (o p q : Ordering) → is_lt (ordering_then o (ordering_then p q)) ≡ true → (is_lt (ordering_then o p) ≡ true) ⊎ ((o ≡ Equal) × (p ≡ Equal))
lt_cases Less p q h = inl refl
lt_cases Equal Less q h = inl refl
lt_cases Equal Equal q h = inr (refl, refl)
lt_cases Equal Greater q h = absurd (true≢false (sym h))
lt_cases Greater p q h = absurd (true≢false (sym h))

pub eqb_from_tie : (t u : ℕ) → nat_cmp t u ≡ Equal → (t == u) ≡ true
eqb_from_tie t u e = eq-eqb t u (elim (nat_cmp t u) as (λ o. nat_cmp t u ≡ o → o ≡ Equal → t ≡ u) [ Less ↦ λ f g. cc | Equal ↦ λ f g. ranked t u Equal (sym f) | Greater ↦ λ f g. cc ] refl e)

both_so : (b c : Bool) → b ≡ true → c ≡ true → b && c ≡ true
both_so true c e h = h
both_so false c e h = e

each_at : {X : Type 0} (P : X → Type 0) (xs : List X) (y : X) (ys : List X) → AllByRecursion P (xs ++ y ∷ ys) → P y
each_at P [] y ys h = h.0
each_at P (x ∷ xs) y ys h = each_at P xs y ys h.1

-- two neighbours of which the first isn't before the second, and that aren't of one owner and type, have a record that isn't
-- before the next
unrisen : (set other : List Record) → IsRRset set → IsRRset other → (IsSetBefore set other → ⊥) → is_same (owner_of set) (owner_of other) && rtype_of set == rtype_of other ≡ false → (records : List Record) → Rises IsBefore (set ++ (other ++ records)) → ⊥
unrisen [] other h k n e records rise = omega (arith, h.some)
unrisen (r ∷ set) [] h k n e records rise = omega (arith, k.some)
unrisen (r ∷ set) (s ∷ other) h k n e records rise =
    ⊎_elim n (λ tied. true≢false (sym (both_so (is_same r.owner s.owner) (r.rtype == s.rtype) (same_from_tie r.owner s.owner tied.0) (eqb_from_tie r.rtype s.rtype tied.1)) ∙ e))
    (lt_cases (canonical_cmp r.owner s.owner) (nat_cmp r.rtype s.rtype) (slice_cmp nat_cmp r.rdata s.rdata) (each_at (IsBefore r) set s (other ++ records) rise.0))

pub unrisen_at : (sets : List (List Record)) (k : ℕ) (d : List Record) → k + 1 < length sets → IsRRset (get_or sets k d) → IsRRset (get_or sets (k + 1) d) → (IsSetBefore (get_or sets k d) (get_or sets (k + 1) d) → ⊥) → AreUnsplit sets → Rises IsBefore (records_in sets) → ⊥
unrisen_at [] k d l h m n unsplit rise = omega arith
unrisen_at (set ∷ []) k d l h m n unsplit rise = omega arith
unrisen_at (set ∷ other ∷ sets) zero d l h m n unsplit rise = unrisen set other h m n (unsplit 0 1 d (omega arith) (omega arith)) (records_in sets) rise
unrisen_at (set ∷ other ∷ sets) (suc k) d l h m n unsplit rise =
    let e : suc k + 1 ≡ suc (k + 1) = omega arith in
    unrisen_at (other ∷ sets) k d (omega arith) h (rw e at m) (rw e at n) (λ i j b a c. unsplit (suc i) (suc j) b (omega arith) (omega arith)) (Rises-behind IsBefore set (records_in (other ∷ sets)) rise)
