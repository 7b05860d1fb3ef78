-- SOAs among held records.
use Rattle.std.proofs.Common.{◌≡◌, refl, sym, ap, ◌∙◌, subst, ℕ, Bool, true, false, ◌&&◌, not, ◌==◌, cond, List, [], ◌∷◌, ◌++◌, length, filter, inl, inr, true≢false, append_assoc}
use Rattle.std.specs.List.{AllByRecursion}
use Rattle.std.proofs.lemmas.Bool.{eqb-true}
use Rattle.std.proofs.lemmas.List.{append-nil}
use Rattle.std.proofs.lemmas.List.Elements.{filter-append}
use Rattle.std.specs.Ordering.{is_lt}
use Rattle.dns_rdata.specs.Numbers.{type_SOA}
use Rattle.dns_rdata.specs.Record.{Record}
use Rattle.dns_name.specs.Name.{Name, is_same}
use Rattle.zone_tree.specs.Zone.{IsZone, IsBefore, soa_of, rrset_of, is_of}
use Rattle.zone_tree.proofs.Rising.{Rises, Rises-filter}
use Rattle.zone_tree.specs.Change.{is_same_record}
use Rattle.transfer_core.specs.Lists.{beside_soa, full}
use Rattle.transfer_core.specs.Take.{held_cmp, is_soa, is_among, inserted, removed}
use Rattle.transfer_core.proofs.RecordLemmas.{IsIn, each_from_in, same_itself, same_type, among_from_in, in_kept, kept_in, not_before, not_same_before}
use Rattle.transfer_core.proofs.InsertLemmas.{filter_same}
use Rattle.transfer_core.proofs.ZoneLemmas.{rises}

-- what a filter keeps with one more record that it doesn't keep, and with one that it keeps where it kept none
kept_other : (p : Record → Bool) (r : Record) (zs : List Record) → p r ≡ false → filter p (inserted r zs) ≡ filter p zs
kept_other p r [] e = rw e refl
kept_other p r (z ∷ zs) e = by (is_lt (held_cmp r z)) (kept_other p r zs e)
  where
    by : (b : Bool) → filter p (inserted r zs) ≡ filter p zs → filter p (cond b (r ∷ z ∷ zs) (z ∷ inserted r zs)) ≡ cond (p z) (z ∷ filter p zs) (filter p zs)
    by true rest = rw e refl
    by false rest = ap (λ l. cond (p z) (z ∷ l) l) rest

none_first : (p : Record → Bool) (z : Record) (zs : List Record) → cond (p z) (z ∷ filter p zs) (filter p zs) ≡ [] → (p z ≡ false) × (filter p zs ≡ [])
none_first p z zs e = by (p z) refl e
  where
    by : (b : Bool) → p z ≡ b → cond b (z ∷ filter p zs) (filter p zs) ≡ [] → (p z ≡ false) × (filter p zs ≡ [])
    by true f g = absurd (cc)
    by false f g = (f, g)

kept_one : (p : Record → Bool) (r : Record) (zs : List Record) → p r ≡ true → filter p zs ≡ [] → filter p (inserted r zs) ≡ r ∷ []
kept_one p r [] e none = rw e refl
kept_one p r (z ∷ zs) e none =
    let parts = none_first p z zs none in
    by (is_lt (held_cmp r z)) parts.0 parts.1 (kept_one p r zs e parts.1)
  where
    by : (b : Bool) → p z ≡ false → filter p zs ≡ [] → filter p (inserted r zs) ≡ r ∷ [] → filter p (cond b (r ∷ z ∷ zs) (z ∷ inserted r zs)) ≡ r ∷ []
    by true f g rest = rw (e, f) (ap (λ l. r ∷ l) g)
    by false f g rest = rw f rest

kept_none : (p q : Record → Bool) (zs : List Record) → filter p zs ≡ [] → filter p (filter q zs) ≡ []
kept_none p q [] none = refl
kept_none p q (z ∷ zs) none =
    let parts = none_first p z zs none in
    by (q z) parts.0 (kept_none p q zs parts.1)
  where
    by : (b : Bool) → p z ≡ false → filter p (filter q zs) ≡ [] → filter p (cond b (z ∷ filter q zs) (filter q zs)) ≡ []
    by true f rest = rw f rest
    by false f rest = rest

-- the SOAs with a record more or less
pub soa_of_plain : (r : Record) (zs : List Record) → is_soa r ≡ false → soa_of (inserted r zs) ≡ soa_of zs
soa_of_plain r zs e = kept_other is_soa r zs e

pub soa_of_soa : (r : Record) (zs : List Record) → is_soa r ≡ true → soa_of zs ≡ [] → soa_of (inserted r zs) ≡ r ∷ []
soa_of_soa r zs e none = kept_one is_soa r zs e none

pub soa_of_removed : (r : Record) (zs : List Record) → soa_of zs ≡ [] → soa_of (removed r zs) ≡ []
soa_of_removed r zs none = kept_none is_soa (λ s. not (is_same_record r s)) zs none

-- no SOA is among records without one
pub soa_not_among : (r : Record) (zs : List Record) → is_soa r ≡ true → soa_of zs ≡ [] → is_among zs r ≡ false
soa_not_among r [] e none = refl
soa_not_among r (z ∷ zs) e none =
    let parts = none_first is_soa z zs none in
    by (is_same_record r z) refl parts.0 (soa_not_among r zs e parts.1)
  where
    by : (b : Bool) → is_same_record r z ≡ b → is_soa z ≡ false → is_among zs r ≡ false → is_among (z ∷ zs) r ≡ false
    by true f g rest = absurd (true≢false (sym e ∙ ap (λ t. t == type_SOA) (same_type r z f) ∙ g))
    by false f g rest = rw f rest

-- records with one SOA: it is among them, and without it those beside it are left
module _ (soa : Record) (zs : List Record) (one : soa_of zs ≡ soa ∷ []) where
  there : IsIn soa zs × (is_soa soa ≡ true)
  there = in_kept is_soa zs soa (subst (IsIn soa) (sym one) (inl refl))

  pub is_soa_one : is_soa soa ≡ true
  is_soa_one = there.1

  pub soa_among : is_among zs soa ≡ true
  soa_among = among_from_in zs soa there.0

  only : (z : Record) → IsIn z zs → not (is_same_record soa z) ≡ not (z.rtype == type_SOA)
  only z k = by (is_soa z) refl
    where
      is_it : IsIn z (soa ∷ []) → soa ≡ z
      is_it (inl e) = e
      is_it (inr n) = absurd n

      by : (b : Bool) → is_soa z ≡ b → not (is_same_record soa z) ≡ not (z.rtype == type_SOA)
      by true e =
          let same : soa ≡ z = is_it (subst (IsIn z) one (kept_in is_soa zs z k e)) in
          let tied : is_same_record soa z ≡ true = subst (λ s. is_same_record soa s ≡ true) same (same_itself soa) in
          rw (tied, e) refl
      by false e = rw e (apart (is_same_record soa z) refl)
        where
          apart : (c : Bool) → is_same_record soa z ≡ c → not c ≡ true
          apart false f = refl
          apart true f = absurd (true≢false (sym is_soa_one ∙ ap (λ t. t == type_SOA) (same_type soa z f) ∙ e))

  pub without_soa : removed soa zs ≡ beside_soa zs
  without_soa = filter_same (λ z. not (is_same_record soa z)) (λ z. not (z.rtype == type_SOA)) zs (each_from_in (λ z. not (is_same_record soa z) ≡ not (z.rtype == type_SOA)) zs only)

-- beside SOAs no set of SOAs is left
pub none_of_soa : (owner : Name) (rtype : ℕ) (zs : List Record) → rtype ≡ type_SOA → rrset_of (beside_soa zs) owner rtype ≡ []
none_of_soa owner rtype [] e = refl
none_of_soa owner rtype (z ∷ zs) e = by (z.rtype == type_SOA) refl (none_of_soa owner rtype zs e)
  where
    both_false : (b : Bool) → (b && false) ≡ false
    both_false true = refl
    both_false false = refl

    by : (b : Bool) → (z.rtype == type_SOA) ≡ b → rrset_of (beside_soa zs) owner rtype ≡ [] → filter (is_of owner rtype) (cond (not b) (z ∷ beside_soa zs) (beside_soa zs)) ≡ []
    by true f rest = rest
    by false f rest =
        let other : is_of owner rtype z ≡ false = ap (λ t. is_same z.owner owner && z.rtype == t) e ∙ ap (λ b. is_same z.owner owner && b) f ∙ both_false (is_same z.owner owner) in
        rw other rest

pub soa_of_beside : (zs : List Record) → soa_of (beside_soa zs) ≡ []
soa_of_beside [] = refl
soa_of_beside (z ∷ zs) = by (z.rtype == type_SOA) refl (soa_of_beside zs)
  where
    by : (b : Bool) → (z.rtype == type_SOA) ≡ b → soa_of (beside_soa zs) ≡ [] → filter is_soa (cond (not b) (z ∷ beside_soa zs) (beside_soa zs)) ≡ []
    by true f rest = rest
    by false f rest = rw f rest

-- where no SOA stands no set of SOAs does
pub no_set_of_soa : (owner : Name) (rtype : ℕ) (zs : List Record) → (rtype == type_SOA) ≡ true → soa_of zs ≡ [] → length (rrset_of zs owner rtype) ≡ 0
no_set_of_soa owner rtype zs e none = ap length (by zs none)
  where
    both_false : (b : Bool) → (b && false) ≡ false
    both_false true = refl
    both_false false = refl

    by : (ys : List Record) → soa_of ys ≡ [] → rrset_of ys owner rtype ≡ []
    by [] m = refl
    by (y ∷ ys) m =
        let parts = none_first is_soa y ys m in
        let other : is_of owner rtype y ≡ false = ap (λ t. is_same y.owner owner && y.rtype == t) (eqb-true rtype type_SOA e) ∙ ap (λ b. is_same y.owner owner && b) parts.0 ∙ both_false (is_same y.owner owner) in
        rw other (by ys parts.1)

abbrev plain : Record → Bool
plain r = not (r.rtype == type_SOA)

-- a zone's records beside its SOA, and those of its full list
pub beside_full : (zone : List Record) → beside_soa (full zone) ≡ beside_soa zone
beside_full zone =
    filter-append plain (soa_of zone ++ beside_soa zone) (soa_of zone)
    ∙ ap (λ l. l ++ beside_soa (soa_of zone)) (filter-append plain (soa_of zone) (beside_soa zone))
    ∙ ap (λ l. (l ++ beside_soa (beside_soa zone)) ++ l) (no_soa zone)
    ∙ append-nil (beside_soa (beside_soa zone))
    ∙ twice zone
  where
    no_soa : (zs : List Record) → beside_soa (soa_of zs) ≡ []
    no_soa [] = refl
    no_soa (z ∷ zs) = by (z.rtype == type_SOA) refl (no_soa zs)
      where
        by : (b : Bool) → (z.rtype == type_SOA) ≡ b → beside_soa (soa_of zs) ≡ [] → beside_soa (cond b (z ∷ soa_of zs) (soa_of zs)) ≡ []
        by true f rest = rw f rest
        by false f rest = rest

    twice : (zs : List Record) → beside_soa (beside_soa zs) ≡ beside_soa zs
    twice [] = refl
    twice (z ∷ zs) = by (z.rtype == type_SOA) refl (twice zs)
      where
        by : (b : Bool) → (z.rtype == type_SOA) ≡ b → beside_soa (beside_soa zs) ≡ beside_soa zs → beside_soa (cond (not b) (z ∷ beside_soa zs) (beside_soa zs)) ≡ cond (not b) (z ∷ beside_soa zs) (beside_soa zs)
        by true f rest = rest
        by false f rest = rw f (ap (λ l. z ∷ l) rest)

-- a record that comes behind all others
at_place : (P : Record → Type 0) (zs : List Record) (r : Record) (more : List Record) → AllByRecursion P (zs ++ r ∷ more) → P r
at_place P [] r more h = h.0
at_place P (z ∷ zs) r more h = at_place P zs r more h.1

pub inserted_behind : (r : Record) (zs more : List Record) → Rises IsBefore (zs ++ r ∷ more) → inserted r zs ≡ zs ++ r ∷ []
inserted_behind r [] more h = refl
inserted_behind r (z ∷ zs) more h = rw (not_before z r (at_place (IsBefore z) zs r more h.0)) (ap (λ l. z ∷ l) (inserted_behind r zs more h.1))

pub not_among_behind : (r : Record) (zs more : List Record) → Rises IsBefore (zs ++ r ∷ more) → is_among zs r ≡ false
not_among_behind r [] more h = refl
not_among_behind r (z ∷ zs) more h = rw (not_same_before z r (at_place (IsBefore z) zs r more h.0)) (not_among_behind r zs more h.1)

-- a zone's records beside its SOA are loaded one behind another
pub first_plain : (r : Record) (rest : List Record) → not (r.rtype == type_SOA) ≡ true → beside_soa (r ∷ rest) ≡ r ∷ beside_soa rest
first_plain r rest e = ap (λ b. cond b (r ∷ beside_soa rest) (beside_soa rest)) e

pub first_soa : (r : Record) (rest : List Record) → not (r.rtype == type_SOA) ≡ false → beside_soa (r ∷ rest) ≡ beside_soa rest
first_soa r rest e = ap (λ b. cond b (r ∷ beside_soa rest) (beside_soa rest)) e

pub record IsLoading (zone records list : List Record) : Type 0 where
  pub lawful : IsZone zone
  pub is : beside_soa zone ≡ records ++ beside_soa list

pub IsLoading-start : (zone records list : List Record) → IsZone zone → records ≡ [] → list ≡ full zone → IsLoading zone records list
IsLoading-start zone records list lawful none all = record { lawful = lawful; is = sym (ap (λ l. l ++ beside_soa list) none ∙ ap beside_soa all ∙ beside_full zone) }

module _ (zone records list : List Record) (h : IsLoading zone records list) (r : Record) (rest : List Record) (first : list ≡ r ∷ rest) where
  pub IsLoading-soa : not (r.rtype == type_SOA) ≡ false → IsLoading zone records rest
  IsLoading-soa e = record { lawful = h.lawful; is = h.is ∙ ap (λ l. records ++ beside_soa l) first ∙ ap (λ l. records ++ l) (first_soa r rest e) }

  module _ (e : not (r.rtype == type_SOA) ≡ true) where
    here : beside_soa zone ≡ records ++ r ∷ beside_soa rest
    here = h.is ∙ ap (λ l. records ++ beside_soa l) first ∙ ap (λ l. records ++ l) (first_plain r rest e)

    rising : Rises IsBefore (records ++ r ∷ beside_soa rest)
    rising = subst (Rises IsBefore) here (Rises-filter (λ s. not (s.rtype == type_SOA)) IsBefore zone (rises zone h.lawful))

    pub IsLoading-apart : is_among records r ≡ false
    IsLoading-apart = not_among_behind r records (beside_soa rest) rising

    pub IsLoading-one : (next : List Record) → next ≡ inserted r records → IsLoading zone next rest
    IsLoading-one next is = record {
      lawful = h.lawful;
      is = here ∙ sym (append_assoc records (r ∷ []) (beside_soa rest)) ∙ ap (λ l. l ++ beside_soa rest) (sym (is ∙ inserted_behind r records (beside_soa rest) rising));
    }

pub IsLoading-end : (zone records list : List Record) → IsLoading zone records list → list ≡ [] → records ≡ beside_soa zone
IsLoading-end zone records list h none = sym (h.is ∙ ap (λ l. records ++ beside_soa l) none ∙ append-nil records)
