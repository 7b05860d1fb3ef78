-- What one record makes of held records is held too.
use Rattle.std.proofs.Common.{◌≡◌, refl, sym, ap, subst, ◌≤◌, Bool, true, false, ◌&&◌, not, ◌==◌, cond, List, [], ◌∷◌, length, filter, arith, Some, Ok, Err}
use Rattle.std.specs.List.Sorted.{IsStrictlySortedBy}
use Rattle.std.proofs.lemmas.Bool.{eqb-true}
use Rattle.std.proofs.lemmas.List.Elements.{recursion_from_All}
use Rattle.std.specs.Ordering.{ordering_then, nat_cmp}
use Rattle.std.specs.declared.cmp.Ordering.TheVariants.{Less}
use Rattle.dns_name.specs.Name.{Name, is_under}
use Rattle.dns_rdata.specs.Numbers.{type_SOA}
use Rattle.dns_rdata.specs.Data.{data_of, serial_of}
use Rattle.dns_rdata.specs.Record.{Record, IsLawful, record_cmp}
use Rattle.zone_tree.specs.Zone.{IsZone, IsBefore, apex_of, soa_of, rrset_of, is_of}
use Rattle.zone_tree.specs.Change.{is_same_record}
use Rattle.zone_tree.specs.Version.{zone_serial}
use Rattle.zone_tree.proofs.Rising.{Rises, each_weaker}
use Rattle.zone_tree.proofs.SetLemmas.{less}
use Rattle.transfer_core.specs.declared.fault.TransferFault.TheVariants.{Broken, WrongBase}
use Rattle.transfer_in.specs.declared.reading.Stage.{Stage as ListStage}
use Rattle.transfer_in.specs.declared.reading.Stage.TheVariants.{Gathering, Deleting, Adding, Closed}
use Rattle.transfer_core.specs.Lists.{beside_soa}
use Rattle.transfer_core.specs.Take.{Stage, opened, gathering, deleting, adding, closed, Reading, held, held_cmp, closing, old_soa, step, is_soa, is_among, inserted, removed, joined}
use Rattle.transfer_in.specs.ListState.{AreHeld, HasSoa, stage_of}
use Rattle.transfer_in.proofs.HoldingLemmas.{no_more}
use Rattle.transfer_core.proofs.SoaLemmas.{soa_not_among}
use Rattle.transfer_in.proofs.KeepLemmas.{given, held_within_limits, inserted_held, filter_held}
use Rattle.transfer_core.proofs.ZoneLemmas.{rises, each_lawful}
use Rattle.transfer_in.proofs.SoaSize.{soa_short}

module _ (apex : Name) (records : List Record) (h : AreHeld apex records) (r : Record) (lawful : IsLawful r) (next : Reading) where
  -- what a limit lets through
  put_keeps : (stage : Stage) → is_among records r ≡ false → held apex stage r (inserted r records) ≡ Ok next → AreHeld apex next.records
  put_keeps stage apart e =
      let w = held_within_limits apex stage r (inserted r records) next e in
      subst (λ (n : Reading). AreHeld apex n.records) (sym w.1) (inserted_held apex records h r lawful apart w.0)

  filter_keeps : (stage : Stage) (p : Record → Bool) → held apex stage r (filter p records) ≡ Ok next → AreHeld apex next.records
  filter_keeps stage p e =
      let w = held_within_limits apex stage r (filter p records) next e in
      subst (λ (n : Reading). AreHeld apex n.records) (sym w.1) (filter_held apex records h p)

  pub join_keeps : (stage : Stage) → held apex stage r (joined r records) ≡ Ok next → AreHeld apex next.records
  join_keeps stage e = by (is_among records r) refl e
    where
      by : (b : Bool) → is_among records r ≡ b → held apex stage r (cond b records (inserted r records)) ≡ Ok next → AreHeld apex next.records
      by true f g = let w = held_within_limits apex stage r records next g in subst (λ (n : Reading). AreHeld apex n.records) (sym w.1) h
      by false f g = put_keeps stage f g

  stays : (stage : Stage) → closing records ≡ Ok next → AreHeld apex next.records
  stays stage e = let same : given closed records ≡ next = cc in subst (λ (n : Reading). AreHeld apex n.records) same h

  pub old_keeps : old_soa apex records r ≡ Ok next → AreHeld apex next.records
  old_keeps e = by (serial_of r.rdata == zone_serial records) e
    where
      by : (b : Bool) → cond b (held apex deleting r (beside_soa records)) (Err WrongBase) ≡ Ok next → AreHeld apex next.records
      by true f = filter_keeps deleting (λ s. not (s.rtype == type_SOA)) f
      by false f = absurd (cc)

  module _ (first : Record) where
    gather_keeps : step apex first gathering records r ≡ Ok next → AreHeld apex next.records
    gather_keeps e = by (is_soa r) (is_same_record first r) e
      where
        by : (b c : Bool) → cond (not b) (held apex gathering r (joined r records)) (cond c (closing records) (Err Broken)) ≡ Ok next → AreHeld apex next.records
        by false c f = join_keeps gathering f
        by true true f = stays gathering f
        by true false f = absurd (cc)

    delete_keeps : soa_of records ≡ [] → step apex first deleting records r ≡ Ok next → AreHeld apex next.records
    delete_keeps none e = by (is_soa r) (is_among records r) refl refl e
      where
        by : (b c : Bool) → is_soa r ≡ b → is_among records r ≡ c → cond b (held apex adding r (inserted r records)) (cond c (held apex deleting r (removed r records)) (Err WrongBase)) ≡ Ok next → AreHeld apex next.records
        by true c f g k = put_keeps adding (soa_not_among r records f none) k
        by false true f g k = filter_keeps deleting (λ s. not (is_same_record r s)) k
        by false false f g k = absurd (cc)

    add_keeps : step apex first adding records r ≡ Ok next → AreHeld apex next.records
    add_keeps e = by (is_soa r) (is_same_record first r) (is_among records r) refl e
      where
        by : (b c d : Bool) → is_among records r ≡ d → cond (b && c && d) (closing records) (cond (b && c) (Err Broken) (cond b (old_soa apex records r) (cond d (Err WrongBase) (held apex adding r (inserted r records))))) ≡ Ok next → AreHeld apex next.records
        by true true true f g = stays adding g
        by true true false f g = absurd (cc)
        by true false d f g = old_keeps g
        by false c true f g = absurd (cc)
        by false c false f g = put_keeps adding f g

    pub step_keeps : (stage : ListStage) → HasSoa stage records → step apex first (stage_of stage) records r ≡ Ok next → AreHeld apex next.records
    step_keeps Gathering s e = gather_keeps e
    step_keeps Deleting s e = delete_keeps s e
    step_keeps (Adding soa) s e = add_keeps e
    step_keeps Closed s e = absurd (cc)

-- a zone is held
module _ (zone : List Record) (is : IsZone zone) where
  rising : (zs : List Record) → Rises IsBefore zs → IsStrictlySortedBy held_cmp zs
  unfolding IsStrictlySortedBy
  rising [] h = tt
  rising (z ∷ zs) h = (each_weaker (IsBefore z) (λ y. held_cmp z y ≡ Less) (λ y k. ap (λ o. ordering_then o (nat_cmp z.ttl y.ttl)) (less (record_cmp z y) k)) zs h.0, rising zs h.1)

  pub zone_held : AreHeld (apex_of zone) zone
  zone_held = record {
    lawful = each_lawful zone is;
    rises = rising zone (rises zone is);
    under = recursion_from_All (λ r. is_under r.owner (apex_of zone) ≡ true) zone is.rules.under_apex;
    short = recursion_from_All (λ r. length r.rdata ≤ 4096) zone is.limits.short;
    small = recursion_from_All (λ r. length (rrset_of zone r.owner r.rtype) ≤ 256) zone is.limits.small_sets;
    few = is.limits.few;
  }

-- and so is the SOA that opens a list
first_held : (apex : Name) (first : Record) → IsLawful first → is_soa first ≡ true → is_under first.owner apex ≡ true → AreHeld apex (first ∷ [])
unfolding IsStrictlySortedBy
first_held apex first lawful soa under = record {
  lawful = (lawful, tt);
  rises = (tt, tt);
  under = (under, tt);
  short = (soa_short first.rdata (subst (λ t. data_of t first.rdata ≡ Some first.rdata) (eqb-true first.rtype type_SOA soa) lawful.form), tt);
  small = (omega (arith, no_more (is_of first.owner first.rtype) (first ∷ [])), tt);
  few = omega arith;
}

-- what the second record of a list makes
pub begin_keeps : (zone : List Record) → IsZone zone → (first : Record) → IsLawful first → is_soa first ≡ true → is_under first.owner (apex_of zone) ≡ true → (r : Record) → IsLawful r → (next : Reading) → step (apex_of zone) first opened zone r ≡ Ok next → AreHeld (apex_of zone) next.records
begin_keeps zone is first first_lawful soa under r lawful next e = by (is_soa r) (is_same_record first r) e
  where
    by : (b c : Bool) → cond (not b) (held (apex_of zone) gathering r (joined r (first ∷ []))) (cond c (Err Broken) (old_soa (apex_of zone) zone r)) ≡ Ok next → AreHeld (apex_of zone) next.records
    by false c f = join_keeps (apex_of zone) (first ∷ []) (first_held (apex_of zone) first first_lawful soa under) r lawful next gathering f
    by true true f = absurd (cc)
    by true false f = old_keeps (apex_of zone) zone (zone_held zone is) r lawful next f
