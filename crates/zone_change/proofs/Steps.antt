-- The records of an update that takes one zone to another, where both have an NS of the apex and the SOA's serial rises.
use Rattle.std.proofs.Common.{◌≡◌, refl, sym, ap, ◌∙◌, subst, ℕ, ◌≤◌, ◌<◌, ◌^◌, Bool, true, false, ◌&&◌, ◌||◌, not, ◌==◌, nat_lt, cond, List, [], ◌∷◌, ◌++◌, map, length, filter, All, arith, true≢false, inl, inr, Option, Some, unwrap_or, bytes_eq}
use Rattle.std.specs.Option.{option_and_then}
use Rattle.std.specs.List.{list_any, AllByRecursion}
use Rattle.std.specs.Ordering.{nat_cmp, ordering_then, is_eq}
use Rattle.std.specs.Cmp.Lexicographic.{slice_cmp}
use Rattle.std.specs.declared.cmp.Ordering.TheVariants.{Equal}
use Rattle.std.proofs.lemmas.Bool.{eqb-true}
use Rattle.std.proofs.lemmas.Bool.Decides.{nat_tests}
use Rattle.std.proofs.lemmas.Cmp.{tied_itself, nat_cmp_total, nat_list_cmp_total}
use Rattle.std.proofs.lemmas.Slice.Eq.{bytes_eq-Decides}
use Rattle.std.proofs.lemmas.List.Elements.{recursion_from_All}
use Rattle.dns_name.specs.Name.{Name, is_same}
use Rattle.dns_name.specs.Order.{is_same_equiv}
use Rattle.dns_rdata.specs.Numbers.{type_NS, type_CNAME, type_SOA}
use Rattle.dns_rdata.specs.Data.{data_of, serial_of}
use Rattle.dns_rdata.specs.Record.{Record, IsLawful, record_cmp, owner_of}
use Rattle.dns_rdata.specs.Raw.{RawRecord, ttl_in_zone}
use Rattle.dns_rdata.specs.SerialOrder.{serial_less}
use Rattle.zone_tree.specs.Zone.{IsZone, IsBefore, stands_at, is_of, rrset_of, rrsets_of, soa_of, apex_of, share_ttl, is_alone}
use Rattle.zone_tree.specs.Change.{is_same_record, left_out, without_rrset}
use Rattle.zone_tree.specs.Patch.{is_among}
use Rattle.zone_tree.proofs.NameOrder.{tie_from_same}
use Rattle.zone_tree.proofs.Rising.{Rises, rises_from_pairs}
use Rattle.zone_tree.proofs.SetLemmas.{record_total}
use Rattle.update_core.specs.Verdict.{has_rrset}
use Rattle.update_core.specs.Act.{entered, with_one, record_with_ttl, with_ttl, has_other_than_alias, has_lesser_soa, within_limits, is_last_apex_record, effect, effects}
use Rattle.update_core.proofs.OneMore.{tied}
use Rattle.zone_change.specs.Change.{put_in, taken_out, steps}
use Rattle.zone_change.proofs.Lists.{IsIn, both, is_not, equal_numbers, equal, greater, same_type, is_one, same_itself, not_same_behind, not_same_before, each_in, each_from, kept_in, in_kept, any_in, in_any, none_any, none_kept, all_kept, filter_same, filter_twice, map_same, not_longer, fewer, only_one, rises_kept, tied_one, same_lists, by_false, and_true, or_false}

-- what a zone keeps, by recursion
pub record IsPlain (zone : List Record) : Type 0 where
  pub lawful : AllByRecursion IsLawful zone
  pub ascending : Rises IsBefore zone
  pub one_ttl : AllByRecursion (λ r. AllByRecursion (λ s. share_ttl r s ≡ true) zone) zone
  pub aliases_alone : AllByRecursion (λ r. is_alone zone r ≡ true) zone
  pub few : length zone ≤ 1000000
  pub small_sets : AllByRecursion (λ r. length (rrset_of zone r.owner r.rtype) ≤ 256) zone
  pub short : AllByRecursion (λ r. length r.rdata ≤ 4096) zone

pub plain : (zone : List Record) → IsZone zone → IsPlain zone
plain zone h = record {
  lawful = recursion_from_All IsLawful zone h.rules.lawful;
  ascending = rises_from_pairs IsBefore zone h.rules.ascending;
  one_ttl =
      each_from (λ r. AllByRecursion (λ s. share_ttl r s ≡ true) zone) zone
      (λ r m. recursion_from_All (λ s. share_ttl r s ≡ true) zone (each_in (λ x. All (λ s. share_ttl x s ≡ true) zone) zone r (recursion_from_All (λ x. All (λ s. share_ttl x s ≡ true) zone) zone h.rules.one_ttl) m));
  aliases_alone = recursion_from_All (λ r. is_alone zone r ≡ true) zone h.rules.aliases_alone;
  few = h.limits.few;
  small_sets = recursion_from_All (λ r. length (rrset_of zone r.owner r.rtype) ≤ 256) zone h.limits.small_sets;
  short = recursion_from_All (λ r. length r.rdata ≤ 4096) zone h.limits.short;
}

pub lawful_in : (zone : List Record) → IsPlain zone → (r : Record) → IsIn r zone → IsLawful r
lawful_in zone h r k = each_in IsLawful zone r h.lawful k

-- a lawful record that is sent enters as it is
small : (m n : ℕ) → m < n → nat_lt m n ≡ true
small m n h = grind (arith, nat_tests)

pub ttl_stays : (ttl : ℕ) → ttl < 2 ^ 31 → ttl_in_zone ttl ≡ ttl
ttl_stays ttl h = ap (λ b. cond b ttl 0) (small ttl (2 ^ 31) h)

pub enters : (r : Record) → IsLawful r → entered (put_in r) ≡ r
enters r h =
    let owner = sym h.folded in
    let ttl = ttl_stays r.ttl h.lasts in
    let rdata : unwrap_or (data_of r.rtype r.rdata) r.rdata ≡ r.rdata = ap (λ o. unwrap_or o r.rdata) h.form in
    λ i. record { owner = owner i; rtype = r.rtype; ttl = ttl i; rdata = rdata i }

-- names that are the same
pub turned : (a b : Name) → is_same a b ≡ true → is_same b a ≡ true
turned a b e = is_same_equiv.symm b a ∙ e

-- a record put in its place among those of a list in order that a test keeps, to which it belongs
with_one_front : (r : Record) (zs : List Record) → AllByRecursion (IsBefore r) zs → with_one r zs ≡ r ∷ zs
with_one_front r [] h = refl
with_one_front r (z ∷ zs) h = rw h.0 refl

with_one_kept : (p : Record → Bool) (zs : List Record) (r : Record) → Rises IsBefore zs → IsIn r zs → with_one r (filter p zs) ≡ filter (λ z. p z || is_same_record r z) zs
with_one_kept p [] r h k = elim k [ ]
with_one_kept p (z ∷ zs) r h (inl e) = subst (λ s. with_one s (filter p (z ∷ zs)) ≡ filter (λ y. p y || is_same_record s y) (z ∷ zs)) e (here (p z))
  where
    same_rest : filter p zs ≡ filter (λ y. p y || is_same_record z y) zs
    same_rest = filter_same p (λ y. p y || is_same_record z y) zs (each_from (λ y. p y ≡ (p y || is_same_record z y)) zs (λ y m. sym (ap (λ b. p y || b) (not_same_behind z y (each_in (IsBefore z) zs y h.0 m)) ∙ or_false (p y))))

    here : (b : Bool) → with_one z (cond b (z ∷ filter p zs) (filter p zs)) ≡ cond (b || is_same_record z z) (z ∷ filter (λ y. p y || is_same_record z y) zs) (filter (λ y. p y || is_same_record z y) zs)
    here true = rw (tied_itself record_total z) (ap (λ l. z ∷ l) same_rest)
    here false = rw (same_itself z) (with_one_front z (filter p zs) (each_from (IsBefore z) (filter p zs) (λ y m. each_in (IsBefore z) zs y h.0 (in_kept p zs y m).0)) ∙ ap (λ l. z ∷ l) same_rest)
with_one_kept p (z ∷ zs) r h (inr k) = by (p z) (with_one_kept p zs r h.1 k)
  where
    before : IsBefore z r
    before = each_in (IsBefore z) zs r h.0 k

    by : (b : Bool) → with_one r (filter p zs) ≡ filter (λ y. p y || is_same_record r y) zs → with_one r (cond b (z ∷ filter p zs) (filter p zs)) ≡ cond (b || is_same_record r z) (z ∷ filter (λ y. p y || is_same_record r y) zs) (filter (λ y. p y || is_same_record r y) zs)
    by true rest = rw (greater z r before) (ap (λ l. z ∷ l) rest)
    by false rest = rw (not_same_before z r before) rest

pub not_over : (m n : ℕ) → n ≤ m → nat_lt m n ≡ false
not_over m n h = grind (arith, nat_tests)

-- the rows of a record that is added, by the tests that choose them
add_row : (alias other has soa lesser : Bool) (stays put joins : Option (List Record)) → (alias && other) ≡ false → (not alias && has) ≡ false → (soa && not lesser) ≡ false
    → cond (alias && other) stays (cond (not alias && has) stays (cond (soa && not lesser) stays (cond (alias || soa) put joins))) ≡ cond (alias || soa) put joins
add_row alias other has soa lesser stays put joins a b c = rw (a, b, c) refl

pub row_of : (zone : List Record) (r : Record) → IsLawful r
    → (r.rtype == type_CNAME && has_other_than_alias zone r.owner) ≡ false → (not (r.rtype == type_CNAME) && has_rrset zone r.owner type_CNAME) ≡ false → (r.rtype == type_SOA && not (has_lesser_soa zone (put_in r))) ≡ false
    → effect zone (put_in r) ≡ cond (r.rtype == type_CNAME || r.rtype == type_SOA) (within_limits (put_in r) (with_one r (without_rrset zone r.owner r.rtype))) (within_limits (put_in r) (with_one r (with_ttl zone r.owner r.rtype r.ttl)))
row_of zone r h a b c =
    add_row (r.rtype == type_CNAME) (has_other_than_alias zone r.owner) (has_rrset zone r.owner type_CNAME) (r.rtype == type_SOA) (has_lesser_soa zone (put_in r)) (Some zone)
    (within_limits (put_in r) (with_one (entered (put_in r)) (without_rrset zone r.owner r.rtype))) (within_limits (put_in r) (with_one (entered (put_in r)) (with_ttl zone r.owner r.rtype (ttl_in_zone r.ttl)))) a b c
    ∙ (λ i. cond (r.rtype == type_CNAME || r.rtype == type_SOA) (within_limits (put_in r) (with_one (enters r h i) (without_rrset zone r.owner r.rtype))) (within_limits (put_in r) (with_one (enters r h i) (with_ttl zone r.owner r.rtype (ttl_stays r.ttl h.lasts i)))))

module _ (zone : List Record) (h : IsPlain zone) where
  -- a part of a zone is within the limits
  within : (p : Record → Bool) (r : Record) → IsIn r zone → within_limits (put_in r) (filter p zone) ≡ Some (filter p zone)
  within p r k =
      let set = each_in (λ s. length (rrset_of zone s.owner s.rtype) ≤ 256) zone r h.small_sets k in
      let set_few = fewer (is_of r.owner r.rtype) p zone in
      let data_few = each_in (λ s. length s.rdata ≤ 4096) zone r h.short k in
      let few = not_longer p zone in
      let all = h.few in
      rw (not_over 4096 (length r.rdata) data_few, not_over 256 (length (rrset_of (filter p zone) r.owner r.rtype)) (omega arith), not_over 1000000 (length (filter p zone)) (omega arith)) refl

  -- an alias is all that stands at its owner
  alone : (r s : Record) → IsIn r zone → IsIn s zone → (r.rtype == type_CNAME) ≡ true → is_same s.owner r.owner ≡ true → r ≡ s
  alone r s k m e o =
      let rule : is_alone zone r ≡ true = each_in (λ x. is_alone zone x ≡ true) zone r h.aliases_alone k in
      let one : (length (rrsets_of zone r.owner) == 1) ≡ true = sym (ap (λ b. not b || (length (rrsets_of zone r.owner) == 1)) e) ∙ rule in
      only_one (stands_at r.owner) zone r s (eqb-true (length (rrsets_of zone r.owner)) 1 one) k (is_same_equiv.refl r.owner) m o

  no_alias : (r s : Record) → IsIn r zone → IsIn s zone → (r.rtype == type_CNAME) ≡ false → is_of r.owner type_CNAME s ≡ false
  no_alias r s k m e =
      by_false (is_of r.owner type_CNAME s)
      (λ t.
      let parts = both (is_same s.owner r.owner) (s.rtype == type_CNAME) t in
      let one = alone s r m k parts.1 (turned s.owner r.owner parts.0) in
      true≢false (sym parts.1 ∙ ap (λ x. x.rtype == type_CNAME) one ∙ e))

  pub no_alias_kept : (p : Record → Bool) (r : Record) → IsIn r zone → (r.rtype == type_CNAME) ≡ false → rrset_of (filter p zone) r.owner type_CNAME ≡ []
  no_alias_kept p r k e = none_kept (is_of r.owner type_CNAME) (filter p zone) (each_from (λ s. is_of r.owner type_CNAME s ≡ false) (filter p zone) (λ s m. no_alias r s k (in_kept p zone s m).0 e))

  no_other_kept : (p : Record → Bool) (r : Record) → IsIn r zone → (r.rtype == type_CNAME) ≡ true → has_other_than_alias (filter p zone) r.owner ≡ false
  no_other_kept p r k e =
      none_any (λ s. stands_at r.owner s && not (s.rtype == type_CNAME)) (filter p zone)
      (each_from (λ s. (stands_at r.owner s && not (s.rtype == type_CNAME)) ≡ false) (filter p zone)
      (λ s m. by_false (stands_at r.owner s && not (s.rtype == type_CNAME))
      (λ t.
      let parts = both (stands_at r.owner s) (not (s.rtype == type_CNAME)) t in
      let one = alone r s k (in_kept p zone s m).0 e parts.0 in
      true≢false (sym e ∙ ap (λ x. x.rtype == type_CNAME) one ∙ is_not (s.rtype == type_CNAME) parts.1))))

  -- a record of a zone that is added to a part of it
  added_alias : (p : Record → Bool) (r : Record) → IsIn r zone → (r.rtype == type_CNAME) ≡ true → with_one r (without_rrset (filter p zone) r.owner r.rtype) ≡ filter (λ z. p z || is_same_record r z) zone
  added_alias p r k e =
      ap (with_one r) (filter_twice (λ s. not (is_of r.owner r.rtype s)) p zone)
      ∙ with_one_kept (λ z. p z && not (is_of r.owner r.rtype z)) zone r h.ascending k
      ∙ filter_same (λ z. (p z && not (is_of r.owner r.rtype z)) || is_same_record r z) (λ z. p z || is_same_record r z) zone
      (each_from (λ z. ((p z && not (is_of r.owner r.rtype z)) || is_same_record r z) ≡ (p z || is_same_record r z)) zone (λ z m. by z m (is_of r.owner r.rtype z) refl))
    where
      absorbed : (a b : Bool) → b ≡ true → ((a && false) || b) ≡ (a || b)
      absorbed true b e = e
      absorbed false b e = refl

      kept : (a b : Bool) → ((a && true) || b) ≡ (a || b)
      kept true b = refl
      kept false b = refl

      by : (z : Record) → IsIn z zone → (b : Bool) → is_of r.owner r.rtype z ≡ b → ((p z && not b) || is_same_record r z) ≡ (p z || is_same_record r z)
      by z m true t =
          let one = alone r z k m e (both (is_same z.owner r.owner) (z.rtype == r.rtype) t).0 in
          absorbed (p z) (is_same_record r z) (ap (is_same_record r) (sym one) ∙ same_itself r)
      by z m false t = kept (p z) (is_same_record r z)

  same_ttl : (p : Record → Bool) (r : Record) → IsIn r zone → with_ttl (filter p zone) r.owner r.rtype r.ttl ≡ filter p zone
  same_ttl p r k =
      map_same (record_with_ttl r.owner r.rtype r.ttl) (filter p zone)
      (each_from (λ s. record_with_ttl r.owner r.rtype r.ttl s ≡ s) (filter p zone) (λ s m. by s (in_kept p zone s m).0 (is_of r.owner r.rtype s) refl))
    where
      by : (s : Record) → IsIn s zone → (b : Bool) → is_of r.owner r.rtype s ≡ b → cond b (record { owner = s.owner; rtype = s.rtype; ttl = r.ttl; rdata = s.rdata }) s ≡ s
      by s m true t =
          let rule = each_in (λ y. share_ttl s y ≡ true) zone r (each_in (λ x. AllByRecursion (λ y. share_ttl x y ≡ true) zone) zone s h.one_ttl m) k in
          let ttl : s.ttl ≡ r.ttl = eqb-true s.ttl r.ttl (sym (ap (λ b. not b || s.ttl == r.ttl) t) ∙ rule) in
          λ i. record { owner = s.owner; rtype = s.rtype; ttl = sym ttl i; rdata = s.rdata }
      by s m false t = refl

  added : (p : Record → Bool) (r : Record) → IsIn r zone → (r.rtype == type_SOA) ≡ false → effect (filter p zone) (put_in r) ≡ Some (filter (λ z. p z || is_same_record r z) zone)
  added p r k not_soa = by (r.rtype == type_CNAME) refl
    where
      nothing : (a b : Bool) → a ≡ false → (a && b) ≡ false
      nothing a b e = rw e refl

      neither : (a : Bool) → (a && false) ≡ false
      neither true = refl
      neither false = refl

      lawful : IsLawful r
      lawful = lawful_in zone h r k

      by : (b : Bool) → (r.rtype == type_CNAME) ≡ b → effect (filter p zone) (put_in r) ≡ Some (filter (λ z. p z || is_same_record r z) zone)
      by true e =
          row_of (filter p zone) r lawful (ap (λ b. r.rtype == type_CNAME && b) (no_other_kept p r k e) ∙ neither (r.rtype == type_CNAME)) (nothing (not (r.rtype == type_CNAME)) (has_rrset (filter p zone) r.owner type_CNAME) (ap not e))
          (nothing (r.rtype == type_SOA) (not (has_lesser_soa (filter p zone) (put_in r))) not_soa)
          ∙ rw e (ap (within_limits (put_in r)) (added_alias p r k e) ∙ within (λ z. p z || is_same_record r z) r k)
      by false e =
          row_of (filter p zone) r lawful (nothing (r.rtype == type_CNAME) (has_other_than_alias (filter p zone) r.owner) e) (ap (λ l. not (r.rtype == type_CNAME) && not (length l == 0)) (no_alias_kept p r k e) ∙ neither (not (r.rtype == type_CNAME)))
          (nothing (r.rtype == type_SOA) (not (has_lesser_soa (filter p zone) (put_in r))) not_soa)
          ∙ rw (e, not_soa) (ap (λ l. within_limits (put_in r) (with_one r l)) (same_ttl p r k) ∙ ap (within_limits (put_in r)) (with_one_kept p zone r h.ascending k) ∙ within (λ z. p z || is_same_record r z) r k)

  -- and several
  abbrev joined : (Record → Bool) → List Record → Record → Bool
  joined p [] = p
  joined p (r ∷ rs) = joined (λ z. p z || is_same_record r z) rs

  joined_is : (p : Record → Bool) (rs : List Record) (z : Record) → joined p rs z ≡ (p z || list_any (λ r. is_same_record r z) rs)
  joined_is p [] z = sym (or_false (p z))
  joined_is p (r ∷ rs) z = joined_is (λ y. p y || is_same_record r y) rs z ∙ either (p z) (is_same_record r z) (list_any (λ s. is_same_record s z) rs)
    where
      either : (a b c : Bool) → ((a || b) || c) ≡ (a || (b || c))
      either true b c = refl
      either false b c = refl

  all_added : (p : Record → Bool) (rs : List Record) → AllByRecursion (λ r. IsIn r zone × ((r.rtype == type_SOA) ≡ false)) rs → effects (filter p zone) (map put_in rs) ≡ Some (filter (joined p rs) zone)
  all_added p [] k = refl
  all_added p (r ∷ rs) k = ap (option_and_then (λ z. effects z (map put_in rs))) (added p r k.0.0 k.0.1) ∙ all_added (λ z. p z || is_same_record r z) rs k.1

-- what one zone has that another hasn't
any_left_out : (zone other : List Record) → IsPlain zone → (s : Record) → IsIn s zone → list_any (λ d. is_same_record d s) (left_out zone other) ≡ (not (s.rtype == type_SOA) && not (is_among other s))
any_left_out zone other h s k = by (not (s.rtype == type_SOA) && not (is_among other s)) refl
  where
    test : Record → Bool
    test r = not (r.rtype == type_SOA) && not (is_among other r)

    by : (b : Bool) → test s ≡ b → list_any (λ d. is_same_record d s) (left_out zone other) ≡ b
    by true e = in_any (λ d. is_same_record d s) (left_out zone other) s (kept_in test zone s k e) (same_itself s)
    by false e =
        by_false (list_any (λ d. is_same_record d s) (left_out zone other))
        (λ t.
        let found = any_in (λ d. is_same_record d s) (left_out zone other) t in
        let there = in_kept test zone found.0 found.1 in
        true≢false (sym there.1 ∙ ap test (is_one found.0 s found.2 (lawful_in zone h found.0 there.0) (lawful_in zone h s k)) ∙ e))

-- a record is meant by a deletion where it ties with it
tied_from : (r s : Record) → is_same r.owner s.owner ≡ true → r.rtype ≡ s.rtype → r.rdata ≡ s.rdata → record_cmp r s ≡ Equal
tied_from r s owners types datas =
    let types_tie : nat_cmp r.rtype s.rtype ≡ Equal = ap (λ t. nat_cmp t s.rtype) types ∙ tied_itself nat_cmp_total s.rtype in
    let datas_tie : slice_cmp nat_cmp r.rdata s.rdata ≡ Equal = ap (λ os. slice_cmp nat_cmp os s.rdata) datas ∙ tied_itself nat_list_cmp_total s.rdata in
    λ i. ordering_then (tie_from_same r.owner s.owner owners i) (ordering_then (types_tie i) (datas_tie i))

pub meant : (d s : Record) → (is_of d.owner d.rtype s && bytes_eq d.rdata s.rdata) ≡ is_eq (record_cmp d s)
meant d s = by (is_of d.owner d.rtype s && bytes_eq d.rdata s.rdata) refl
  where
    by : (b : Bool) → (is_of d.owner d.rtype s && bytes_eq d.rdata s.rdata) ≡ b → b ≡ is_eq (record_cmp d s)
    by true e =
        let parts = both (is_of d.owner d.rtype s) (bytes_eq d.rdata s.rdata) e in
        let of = both (is_same s.owner d.owner) (s.rtype == d.rtype) parts.0 in
        sym (ap is_eq (tied_from d s (turned s.owner d.owner of.0) (sym (eqb-true s.rtype d.rtype of.1)) ((bytes_eq-Decides d.rdata s.rdata).0 parts.1)))
    by false e =
        sym (by_false (is_eq (record_cmp d s))
        (λ t.
        let is = tied d s (equal (record_cmp d s) t) in
        let owner = turned d.owner s.owner is.owner in
        let rtype = equal_numbers s.rtype d.rtype (sym is.rtype) in
        let rdata = (bytes_eq-Decides d.rdata s.rdata).1 is.rdata in
        true≢false (sym (λ i. (owner i && rtype i) && rdata i) ∙ e)))

module _ (old : List Record) (h : IsPlain old) (soa : Record) (had : soa_of old ≡ soa ∷ []) (ns : Record) (is_ns : is_of soa.owner type_NS ns ≡ true) (is_present : IsIn ns old) where
  -- a test that keeps an NS of the apex, and the SOA
  record Keeps (q : Record → Bool) : Type 0 where
    one : q ns ≡ true
    soas : (s : Record) → (s.rtype == type_SOA) ≡ true → q s ≡ true

  apex_kept : (q : Record → Bool) → Keeps q → apex_of (filter q old) ≡ soa.owner
  apex_kept q k =
      ap owner_of
      (filter_twice (λ r. r.rtype == type_SOA) q old
      ∙ filter_same (λ r. q r && r.rtype == type_SOA) (λ r. r.rtype == type_SOA) old (each_from (λ r. (q r && r.rtype == type_SOA) ≡ (r.rtype == type_SOA)) old (λ r m. by r (r.rtype == type_SOA) refl))
      ∙ had)
    where
      by : (r : Record) (b : Bool) → (r.rtype == type_SOA) ≡ b → (q r && b) ≡ b
      by r true e = rw (k.soas r e) refl
      by r false e = no (q r)
        where
          no : (a : Bool) → (a && false) ≡ false
          no true = refl
          no false = refl

  -- what goes: no SOA, and not that NS
  record IsGone (d : Record) : Type 0 where
    there : IsIn d old
    not_soa : (d.rtype == type_SOA) ≡ false
    other : d ≡ ns → ⊥

  not_last : (q : Record → Bool) → Keeps q → (d : Record) → IsGone d → q d ≡ true → is_last_apex_record (filter q old) d.owner d.rtype ≡ false
  not_last q k d gone kept =
      by_false (is_last_apex_record (filter q old) d.owner d.rtype)
      (λ t.
      let parts = both (is_same d.owner (apex_of (filter q old))) (d.rtype == type_SOA || (d.rtype == type_NS && length (rrset_of (filter q old) d.owner type_NS) == 1)) t in
      let set : (d.rtype == type_NS && length (rrset_of (filter q old) d.owner type_NS) == 1) ≡ true = sym (ap (λ b. b || (d.rtype == type_NS && length (rrset_of (filter q old) d.owner type_NS) == 1)) gone.not_soa) ∙ parts.1 in
      let of = both (d.rtype == type_NS) (length (rrset_of (filter q old) d.owner type_NS) == 1) set in
      let at_apex : is_same d.owner soa.owner ≡ true = ap (is_same d.owner) (sym (apex_kept q k)) ∙ parts.0 in
      let own : is_of d.owner type_NS d ≡ true = ap (λ b. b && d.rtype == type_NS) (is_same_equiv.refl d.owner) ∙ of.0 in
      let ns_parts = both (is_same ns.owner soa.owner) (ns.rtype == type_NS) is_ns in
      let here : is_same ns.owner d.owner ≡ true = is_same_equiv.symm ns.owner d.owner ∙ is_same_equiv.congr d.owner soa.owner ns.owner at_apex ∙ turned ns.owner soa.owner ns_parts.0 in
      let also : is_of d.owner type_NS ns ≡ true = ap (λ b. b && ns.rtype == type_NS) here ∙ ns_parts.1 in
      gone.other
      (only_one (is_of d.owner type_NS) (filter q old) d ns (eqb-true (length (rrset_of (filter q old) d.owner type_NS)) 1 of.1)
      (kept_in q old d gone.there kept) own (kept_in q old ns is_present k.one) also))

  deleted : (q : Record → Bool) → Keeps q → (d : Record) → IsGone d → effect (filter q old) (taken_out d) ≡ Some (filter (λ s. q s && not (is_same_record d s)) old)
  deleted q k d gone =
      ap Some
      (filter_twice (λ s. not (is_of d.owner d.rtype s && bytes_eq d.rdata s.rdata) || is_last_apex_record (filter q old) s.owner s.rtype) q old
      ∙ filter_same (λ s. q s && (not (is_of d.owner d.rtype s && bytes_eq d.rdata s.rdata) || is_last_apex_record (filter q old) s.owner s.rtype)) (λ s. q s && not (is_same_record d s)) old
      (each_from (λ s. (q s && (not (is_of d.owner d.rtype s && bytes_eq d.rdata s.rdata) || is_last_apex_record (filter q old) s.owner s.rtype)) ≡ (q s && not (is_same_record d s))) old (λ s m. by s m (q s) refl)))
    where
      tied_by : (s : Record) → IsIn s old → q s ≡ true → (b : Bool) → is_eq (record_cmp d s) ≡ b → (not b || is_last_apex_record (filter q old) s.owner s.rtype) ≡ not (b && d.ttl == s.ttl)
      tied_by s m kept true e =
          let one = tied_one old d s h.ascending gone.there m e in
          let last : is_last_apex_record (filter q old) s.owner s.rtype ≡ false = sym (ap (λ x. is_last_apex_record (filter q old) x.owner x.rtype) one) ∙ not_last q k d gone (ap q one ∙ kept) in
          last ∙ ap not (sym (equal_numbers d.ttl s.ttl (ap (λ x. x.ttl) one)))
      tied_by s m kept false e = refl

      by : (s : Record) → IsIn s old → (b : Bool) → q s ≡ b → (b && (not (is_of d.owner d.rtype s && bytes_eq d.rdata s.rdata) || is_last_apex_record (filter q old) s.owner s.rtype)) ≡ (b && not (is_same_record d s))
      by s m true e = ap (λ b. not b || is_last_apex_record (filter q old) s.owner s.rtype) (meant d s) ∙ tied_by s m e (is_eq (record_cmp d s)) refl
      by s m false e = refl

  abbrev without : (Record → Bool) → List Record → Record → Bool
  without q [] = q
  without q (d ∷ ds) = without (λ s. q s && not (is_same_record d s)) ds

  without_is : (q : Record → Bool) (ds : List Record) (s : Record) → without q ds s ≡ (q s && not (list_any (λ d. is_same_record d s) ds))
  without_is q [] s = sym (and_true (q s))
  without_is q (d ∷ ds) s = without_is (λ y. q y && not (is_same_record d y)) ds s ∙ neither (q s) (is_same_record d s) (list_any (λ e. is_same_record e s) ds)
    where
      neither : (a b c : Bool) → ((a && not b) && not c) ≡ (a && not (b || c))
      neither true true c = refl
      neither true false c = refl
      neither false b c = refl

  keeps_on : (q : Record → Bool) → Keeps q → (d : Record) → IsGone d → Keeps (λ s. q s && not (is_same_record d s))
  keeps_on q k d gone = record {
    one = rw (k.one, by_false (is_same_record d ns) (λ t. gone.other (is_one d ns t (lawful_in old h d gone.there) (lawful_in old h ns is_present)))) refl;
    soas = λ s e. rw (k.soas s e, by_false (is_same_record d s) (λ t. true≢false (sym e ∙ ap (λ x. x == type_SOA) (sym (same_type d s t)) ∙ gone.not_soa))) refl;
  }

  all_deleted : (q : Record → Bool) → Keeps q → (ds : List Record) → AllByRecursion IsGone ds → (rest : List RawRecord) → effects (filter q old) (map taken_out ds ++ rest) ≡ effects (filter (without q ds) old) rest
  all_deleted q k [] all rest = refl
  all_deleted q k (d ∷ ds) all rest =
      ap (option_and_then (λ z. effects z (map taken_out ds ++ rest))) (deleted q k d all.0)
      ∙ all_deleted (λ s. q s && not (is_same_record d s)) (keeps_on q k d all.0) ds all.1 rest

-- what both zones have
abbrev both_have : List Record → Record → Bool
both_have other r = not (r.rtype == type_SOA) && is_among other r

crosses : (zone next : List Record) → IsPlain zone → IsPlain next → (r : Record) → IsIn r (filter (both_have next) zone) → IsIn r (filter (both_have zone) next)
crosses zone next h n r k =
    let here = in_kept (both_have next) zone r k in
    let parts = both (not (r.rtype == type_SOA)) (is_among next r) here.1 in
    let found = any_in (is_same_record r) next parts.1 in
    let there : IsIn r next = subst (λ x. IsIn x next) (sym (is_one r found.0 found.2 (lawful_in zone h r here.0) (lawful_in next n found.0 found.1))) found.1 in
    let also : is_among zone r ≡ true = in_any (is_same_record r) zone r here.0 (same_itself r) in
    kept_in (both_have zone) next r there (rw (parts.0, also) refl)

-- zones of one apex, of which the next has the greater serial, that share an NS record at the apex
pub record CanStep (old next : List Record) : Type 0 where
  pub old_zone : IsPlain old
  pub next_zone : IsPlain next
  pub soa : Record
  pub old_soa : Record
  pub has_soa : soa_of next ≡ soa ∷ []
  pub had_soa : soa_of old ≡ old_soa ∷ []
  pub apex : old_soa.owner ≡ soa.owner
  pub rises : serial_less (serial_of old_soa.rdata) (serial_of soa.rdata) ≡ true
  pub ns : Record
  pub is_ns : is_of soa.owner type_NS ns ≡ true
  pub is_present : IsIn ns old
  pub stays : IsIn ns next

module _ (old next : List Record) (c : CanStep old next) where
  abbrev gone : List Record
  gone = left_out old next

  abbrev come : List Record
  come = left_out next old

  soa_in : IsIn c.soa next × ((c.soa.rtype == type_SOA) ≡ true)
  soa_in = in_kept (λ r. r.rtype == type_SOA) next c.soa (subst (IsIn c.soa) (sym c.has_soa) (inl refl))

  old_soa_in : IsIn c.old_soa old × ((c.old_soa.rtype == type_SOA) ≡ true)
  old_soa_in = in_kept (λ r. r.rtype == type_SOA) old c.old_soa (subst (IsIn c.old_soa) (sym c.had_soa) (inl refl))

  one_soa : (zone : List Record) (soa : Record) → soa_of zone ≡ soa ∷ [] → (s : Record) → IsIn s zone → (s.rtype == type_SOA) ≡ true → soa ≡ s
  one_soa zone soa is s k e = by (subst (IsIn s) is (kept_in (λ r. r.rtype == type_SOA) zone s k e))
    where
      by : IsIn s (soa ∷ []) → soa ≡ s
      by (inl m) = m
      by (inr m) = absurd m

  old_ns : is_of c.old_soa.owner type_NS c.ns ≡ true
  old_ns = ap (λ o. is_of o type_NS c.ns) c.apex ∙ c.is_ns

  abbrev Gone : Record → Type 0
  Gone d = IsGone old c.old_zone c.old_soa c.had_soa c.ns old_ns c.is_present d

  all_gone : AllByRecursion Gone gone
  all_gone =
      each_from Gone gone
      (λ d m.
      let here = in_kept (λ r. not (r.rtype == type_SOA) && not (is_among next r)) old d m in
      let parts = both (not (d.rtype == type_SOA)) (not (is_among next d)) here.1 in
      record {
        there = here.0;
        not_soa = is_not (d.rtype == type_SOA) parts.0;
        other = λ e. true≢false (sym (in_any (is_same_record d) next d (subst (λ x. IsIn x next) (sym e) c.stays) (same_itself d)) ∙ is_not (is_among next d) parts.1);
      })

  abbrev left : Record → Bool
  left = without old c.old_zone c.old_soa c.had_soa c.ns old_ns c.is_present (λ s. true) gone

  left_is : (s : Record) → IsIn s old → left s ≡ not (not (s.rtype == type_SOA) && not (is_among next s))
  left_is s m = without_is old c.old_zone c.old_soa c.had_soa c.ns old_ns c.is_present (λ y. true) gone s ∙ ap not (any_left_out old next c.old_zone s m)

  first : effects old (steps old next) ≡ effects (filter left old) (map put_in (soa_of next) ++ map put_in come)
  first =
      ap (λ z. effects z (steps old next)) (sym (all_kept (λ s. true) old (each_from (λ s. true ≡ true) old (λ s m. refl))))
      ∙ all_deleted old c.old_zone c.old_soa c.had_soa c.ns old_ns c.is_present (λ s. true) (record { one = refl; soas = λ s e. refl }) gone all_gone (map put_in (soa_of next) ++ map put_in come)

  -- the SOA
  soa_type : c.soa.rtype ≡ 6
  soa_type = eqb-true c.soa.rtype 6 soa_in.1

  old_soa_type : c.old_soa.rtype ≡ 6
  old_soa_type = eqb-true c.old_soa.rtype 6 old_soa_in.1

  soa_lawful : IsLawful c.soa
  soa_lawful = lawful_in next c.next_zone c.soa soa_in.0

  no_alias_left : rrset_of (filter left old) c.soa.owner type_CNAME ≡ []
  no_alias_left = ap (λ o. rrset_of (filter left old) o type_CNAME) (sym c.apex) ∙ no_alias_kept old c.old_zone left c.old_soa old_soa_in.0 (ap (λ t. t == type_CNAME) old_soa_type)

  lesser_left : has_lesser_soa (filter left old) (put_in c.soa) ≡ true
  lesser_left =
      let kept : left c.old_soa ≡ true = left_is c.old_soa old_soa_in.0 ∙ ap (λ b. not (not b && not (is_among next c.old_soa))) old_soa_in.1 in
      let owner : is_same c.old_soa.owner c.soa.owner ≡ true = ap (is_same c.old_soa.owner) (sym c.apex) ∙ is_same_equiv.refl c.old_soa.owner in
      let less : serial_less (serial_of c.old_soa.rdata) (serial_of (entered (put_in c.soa)).rdata) ≡ true = ap (λ r. serial_less (serial_of c.old_soa.rdata) (serial_of r.rdata)) (enters c.soa soa_lawful) ∙ c.rises in
      let rtype = old_soa_in.1 in
      in_any (λ s. is_of c.soa.owner type_SOA s && serial_less (serial_of s.rdata) (serial_of (entered (put_in c.soa)).rdata)) (filter left old) c.old_soa (kept_in left old c.old_soa old_soa_in.0 kept)
      (λ i. (owner i && rtype i) && less i)

  only_others : without_rrset (filter left old) c.soa.owner c.soa.rtype ≡ filter (both_have next) old
  only_others =
      filter_twice (λ s. not (is_of c.soa.owner c.soa.rtype s)) left old
      ∙ filter_same (λ s. left s && not (is_of c.soa.owner c.soa.rtype s)) (both_have next) old
      (each_from (λ s. (left s && not (is_of c.soa.owner c.soa.rtype s)) ≡ both_have next s) old
      (λ s m. (λ i. left_is s m i && not (is_soa s m i)) ∙ taken (s.rtype == type_SOA) (is_among next s)))
    where
      taken : (a b : Bool) → (not (not a && not b) && not a) ≡ (not a && b)
      taken true b = refl
      taken false true = refl
      taken false false = refl

      is_soa : (s : Record) → IsIn s old → is_of c.soa.owner c.soa.rtype s ≡ (s.rtype == type_SOA)
      is_soa s m = ap (λ t. is_of c.soa.owner t s) soa_type ∙ by (s.rtype == type_SOA) refl
        where
          by : (b : Bool) → (s.rtype == type_SOA) ≡ b → (is_same s.owner c.soa.owner && b) ≡ b
          by true e =
              let owner : s.owner ≡ c.soa.owner = ap (λ x. x.owner) (sym (one_soa old c.old_soa c.had_soa s m e)) ∙ c.apex in
              ap (λ b. b && true) (ap (λ o. is_same o c.soa.owner) owner ∙ is_same_equiv.refl c.soa.owner)
          by false e = no (is_same s.owner c.soa.owner)
            where
              no : (a : Bool) → (a && false) ≡ false
              no true = refl
              no false = refl

  stay : filter (both_have next) old ≡ filter (both_have old) next
  stay =
      same_lists (filter (both_have next) old) (filter (both_have old) next) (rises_kept (both_have next) old c.old_zone.ascending) (rises_kept (both_have old) next c.next_zone.ascending)
      (crosses old next c.old_zone c.next_zone) (crosses next old c.next_zone c.old_zone)

  abbrev so_far : Record → Bool
  so_far z = both_have old z || is_same_record c.soa z

  soa_added : effect (filter left old) (put_in c.soa) ≡ Some (filter so_far next)
  soa_added =
      let not_alias : (c.soa.rtype == type_CNAME) ≡ false = ap (λ t. t == type_CNAME) soa_type in
      let is_soa = soa_in.1 in
      row_of (filter left old) c.soa soa_lawful (ap (λ b. b && has_other_than_alias (filter left old) c.soa.owner) not_alias) (λ i. not (not_alias i) && not (length (no_alias_left i) == 0)) (λ i. is_soa i && not (lesser_left i))
      ∙ rw (not_alias, is_soa)
      (ap (λ l. within_limits (put_in c.soa) (with_one c.soa l)) (only_others ∙ stay)
      ∙ ap (within_limits (put_in c.soa)) (with_one_kept (both_have old) next c.soa c.next_zone.ascending soa_in.0)
      ∙ within next c.next_zone so_far c.soa soa_in.0)

  -- and the rest
  all_come : AllByRecursion (λ r. IsIn r next × ((r.rtype == type_SOA) ≡ false)) come
  all_come =
      each_from (λ r. IsIn r next × ((r.rtype == type_SOA) ≡ false)) come
      (λ r m.
      let here = in_kept (λ s. not (s.rtype == type_SOA) && not (is_among old s)) next r m in
      (here.0, is_not (r.rtype == type_SOA) (both (not (r.rtype == type_SOA)) (not (is_among old r)) here.1).0))

  all_there : filter (joined next c.next_zone so_far come) next ≡ next
  all_there =
      all_kept (joined next c.next_zone so_far come) next
      (each_from (λ z. joined next c.next_zone so_far come z ≡ true) next
      (λ z m. joined_is next c.next_zone so_far come z ∙ ap (λ b. so_far z || b) (any_left_out next old c.next_zone z m) ∙ by z m (z.rtype == type_SOA) refl))
    where
      either : (b c : Bool) → ((b || c) || not b) ≡ true
      either true c = refl
      either false true = refl
      either false false = refl

      by : (z : Record) → IsIn z next → (a : Bool) → (z.rtype == type_SOA) ≡ a → (((not a && is_among old z) || is_same_record c.soa z) || (not a && not (is_among old z))) ≡ true
      by z m true e = ap (λ b. b || false) (ap (is_same_record c.soa) (sym (one_soa next c.soa c.has_soa z m e)) ∙ same_itself c.soa)
      by z m false e = either (is_among old z) (is_same_record c.soa z)

  pub leads : effects old (steps old next) ≡ Some next
  leads =
      first
      ∙ ap (λ l. effects (filter left old) (map put_in l ++ map put_in come)) c.has_soa
      ∙ ap (option_and_then (λ z. effects z (map put_in come))) soa_added
      ∙ all_added next c.next_zone so_far come all_come
      ∙ ap Some all_there
