-- The update that takes one zone to another is taken, and does that.
use Rattle.std.proofs.Common.{◌≡◌, refl, sym, ap, ◌∙◌, subst, ◌<◌, Bool, true, false, ◌&&◌, ◌==◌, cond, if◌then◌else◌, List, [], ◌∷◌, ◌++◌, map, length, true≢false, ◌⊎◌, inl, inr, None, Some, ℕ}
use Rattle.std.specs.Option.{option_map, option_or}
use Rattle.std.specs.List.{list_any, AllByRecursion}
use Rattle.std.specs.Cmp.Lexicographic.{pointwise}
use Rattle.std.proofs.lemmas.Bool.{eqb-true}
use Rattle.std.proofs.lemmas.Slice.Eq.{bytes_eq-Decides}
use Rattle.dns_name.specs.Name.{Name, is_same, is_under}
use Rattle.dns_name.specs.Order.{is_same_equiv}
use Rattle.dns_rdata.specs.Numbers.{type_NS, type_SOA}
use Rattle.dns_rdata.specs.Data.{with_serial}
use Rattle.dns_rdata.specs.Record.{Record, IsLawful, owner_of}
use Rattle.dns_rdata.specs.Raw.{RawRecord}
use Rattle.dns_rdata.specs.SerialOrder.{serial_less, serial_next}
use Rattle.zone_tree.specs.Zone.{IsZone, is_of, rrset_of, soa_of, apex_of}
use Rattle.zone_tree.specs.Change.{is_same_record}
use Rattle.zone_tree.specs.Patch.{is_among}
use Rattle.zone_tree.specs.Version.{zone_serial}
use Rattle.zone_tree.proofs.LawLemmas.{under_itself, soa_is_at_apex}
use Rattle.zone_tree.proofs.Rising.{each_append}
use Rattle.update_core.specs.Verdict.{zone_section, prerequisite, prerequisites, is_gathered, is_met, have_same_data, prescan, verdict}
use Rattle.update_core.specs.Act.{at_serial, effects, completed, act}
use Rattle.update_core.proofs.ListLemmas.{by_test}
use Rattle.update_core.proofs.ActKeeps.{serial_zone}
use Rattle.update_core.proofs.SerialLaw.{next_serial_less}
use Rattle.zone_change.specs.Change.{put_in, standing, steps, servers_of, first_server, with_first, change_records, update_from, change_to, aimed, HasRoom, CanChange}
use Rattle.zone_change.proofs.Lists.{IsIn, both, is_one, same_itself, in_kept, equal_numbers}
use Rattle.zone_change.proofs.Steps.{plain}
use Rattle.zone_change.proofs.Passed.{Passes, all_pass}
use Rattle.zone_change.proofs.First.{one_of, leads_on, first_passes, steps_pass}

-- lists whose records are the same, one by one
pub pointwise_itself : (zs : List Record) → pointwise is_same_record zs zs ≡ true
pointwise_itself [] = refl
pointwise_itself (z ∷ zs) = rw (same_itself z) (pointwise_itself zs)

pub pointwise_one : (xs ys : List Record) → AllByRecursion IsLawful xs → AllByRecursion IsLawful ys → pointwise is_same_record xs ys ≡ true → xs ≡ ys
pointwise_one [] [] h k e = refl
pointwise_one [] (y ∷ ys) h k e = absurd (true≢false (sym e))
pointwise_one (x ∷ xs) [] h k e = absurd (true≢false (sym e))
pointwise_one (x ∷ xs) (y ∷ ys) h k e =
    let parts = both (is_same_record x y) (pointwise is_same_record xs ys) e in
    let first = is_one x y parts.0 h.0 k.0 in
    let rest = pointwise_one xs ys h.1 k.1 parts.1 in
    λ i. first i ∷ rest i

-- the prerequisite: the SOA stands
module _ (zone : List Record) (h : IsZone zone) where
  section : zone_section zone (record { name = apex_of zone; rtype = record { 0 = 6 }; class = record { 0 = 1 } }) ≡ None
  section = rw (is_same_equiv.refl (apex_of zone)) refl

  module _ (soa : Record) (one : soa_of zone ≡ soa ∷ []) where
    owner : apex_of zone ≡ soa.owner
    owner = ap owner_of one

    there : (soa.rtype == type_SOA) ≡ true
    there = (in_kept (λ r. r.rtype == type_SOA) zone soa (subst (IsIn soa) (sym one) (inl refl))).1

    set : rrset_of zone soa.owner soa.rtype ≡ soa ∷ []
    set = (λ i. rrset_of zone (sym owner i) (eqb-true soa.rtype type_SOA there i)) ∙ soa_is_at_apex zone h ∙ one

    alone : prerequisite zone (standing soa) ≡ None
    alone = rw (ap (is_under soa.owner) owner ∙ under_itself soa.owner) refl

    gathered : is_gathered soa.owner soa.rtype (standing soa) ≡ true
    gathered = rw (is_same_equiv.refl soa.owner, equal_numbers soa.rtype soa.rtype refl) refl

    same_data : have_same_data (standing soa ∷ []) (soa ∷ []) ≡ true
    same_data = rw ((bytes_eq-Decides soa.rdata soa.rdata).1 refl) refl

    met : is_met zone (standing soa ∷ []) (standing soa) ≡ true
    met = (λ i. have_same_data (cond (gathered i) (standing soa ∷ []) []) (set i)) ∙ same_data

    is_present : prerequisites zone (standing soa ∷ []) ≡ None
    is_present = rw (alone, met) refl

  pub taken_by : (rs : List RawRecord) → prescan zone rs ≡ None → verdict zone (update_from zone rs) true ≡ None
  taken_by rs passed =
      let own = one_of (soa_of zone) h.rules.one_soa in
      let condition : prerequisites zone (map standing (soa_of zone)) ≡ None = ap (λ ss. prerequisites zone (map standing ss)) own.1 ∙ is_present own.0 own.1 in
      (λ i. option_or (option_or (section i) (condition i)) (option_or None (passed i)))

  pub taken : (rs : List RawRecord) → AllByRecursion (Passes zone) rs → verdict zone (update_from zone rs) true ≡ None
  taken rs passes = taken_by rs (all_pass zone rs passes)

-- a zone that a change is to lead to
pub record IsAim (old next : List Record) : Type 0 where
  pub is : IsZone next
  pub apex : apex_of old ≡ apex_of next
  pub way : (pointwise is_same_record old next ≡ true) ⊎ ((serial_less (zone_serial old) (zone_serial next) ≡ true) × HasRoom old next)

-- the NS at an apex stay where the serial is another
servers_at : (n : ℕ) (o : Name) (zs : List Record) → rrset_of (at_serial n zs) o type_NS ≡ rrset_of zs o type_NS
servers_at n o [] = refl
servers_at n o (z ∷ zs) = by (z.rtype == type_SOA) refl ∙ ap (λ l. cond (is_of o type_NS z) (z ∷ l) l) (servers_at n o zs)
  where
    rest : List Record
    rest = rrset_of (at_serial n zs) o type_NS

    none : (a : Bool) → (a && false) ≡ false
    none true = refl
    none false = refl

    by : (b : Bool) → (z.rtype == type_SOA) ≡ b → cond (is_of o type_NS (cond b (record z { rdata = with_serial n z.rdata }) z)) (cond b (record z { rdata = with_serial n z.rdata }) z ∷ rest) rest ≡ cond (is_of o type_NS z) (z ∷ rest) rest
    by true e =
        let other : (z.rtype == type_NS) ≡ false = ap (λ t. t == type_NS) (eqb-true z.rtype type_SOA e) in
        let not_of : is_of o type_NS z ≡ false = ap (λ b. is_same z.owner o && b) other ∙ none (is_same z.owner o) in
        rw not_of refl
    by false e = refl

pub servers_same : (n : ℕ) (zone : List Record) → IsZone zone → servers_of (at_serial n zone) ≡ servers_of zone
servers_same n zone h = ap (λ o. rrset_of (at_serial n zone) o type_NS) (serial_zone n zone h).apex ∙ servers_at n (apex_of zone) zone

module _ (old next : List Record) (c : CanChange old next) where
  pub aims : IsAim old (aimed old next)
  aims =
      by_test (IsAim old) (serial_less (zone_serial old) (zone_serial next)) next (if pointwise is_same_record old (at_serial (zone_serial old) next) then old else at_serial (serial_next (zone_serial old)) next)
      (λ e. record { is = c.next_zone; apex = c.apex; way = inr (e, c.room) })
      (λ _. by_test (IsAim old) (pointwise is_same_record old (at_serial (zone_serial old) next)) old (at_serial (serial_next (zone_serial old)) next)
      (λ _. record { is = c.old_zone; apex = refl; way = inl (pointwise_itself old) })
      (λ _.
      let n = serial_next (zone_serial old) in
      let also = serial_zone n next c.next_zone in
      record {
        is = also.is;
        apex = c.apex ∙ sym also.apex;
        way = inr (next_serial_less old next c.old_zone c.next_zone, subst (λ ns. (list_any (is_among old) ns ≡ true) ⊎ ((length old < 1000000) × (length (servers_of old) < 256))) (sym (servers_same n next c.next_zone)) c.room);
      }))

  abbrev aim : List Record
  aim = aimed old next

  -- the records pass
  passes : AllByRecursion (Passes old) (change_records old aim)
  passes = by (pointwise is_same_record old aim)
    where
      by : (b : Bool) → AllByRecursion (Passes old) (cond b [] (map put_in (first_server old aim) ++ steps (with_first old aim) aim))
      by true = tt
      by false =
          each_append (Passes old) (map put_in (first_server old aim)) (steps (with_first old aim) aim)
          (first_passes old aim c.old_zone aims.is aims.apex) (steps_pass old aim c.old_zone aims.is aims.apex)

  pub is_taken : verdict old (change_to old next) true ≡ None
  is_taken = taken old c.old_zone (change_records old aim) passes

  -- and lead there
  leads_by : (b : Bool) → pointwise is_same_record old aim ≡ b → option_map (completed old) (effects old (cond b [] (map put_in (first_server old aim) ++ steps (with_first old aim) aim))) ≡ Some aim
  leads_by true e =
      ap (λ b. Some (cond b old (if serial_less (zone_serial old) (zone_serial old) then old else at_serial (serial_next (zone_serial old)) old))) (pointwise_itself old)
      ∙ ap Some (pointwise_one old aim (plain old c.old_zone).lawful (plain aim aims.is).lawful e)
  leads_by false e = on aims.way
    where
      on : (pointwise is_same_record old aim ≡ true) ⊎ ((serial_less (zone_serial old) (zone_serial aim) ≡ true) × HasRoom old aim) → option_map (completed old) (effects old (map put_in (first_server old aim) ++ steps (with_first old aim) aim)) ≡ Some aim
      on (inl wrong) = absurd (true≢false (sym wrong ∙ e))
      on (inr way) =
          ap (option_map (completed old)) (leads_on old aim (record { old_zone = c.old_zone; next_zone = aims.is; apex = aims.apex; rises = way.0; room = way.1 }))
          ∙ ap Some (λ i. cond (e i) old (cond (way.0 i) aim (at_serial (serial_next (zone_serial old)) aim)))

  pub acts : act old (change_to old next) ≡ Some (aimed old next)
  acts = leads_by (pointwise is_same_record old aim) refl

pub law : (old next : List Record) → CanChange old next → (verdict old (change_to old next) true ≡ None) × (act old (change_to old next) ≡ Some (aimed old next))
law old next c = (is_taken old next c, acts old next c)
