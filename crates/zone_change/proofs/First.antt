-- An NS of the next zone that comes first, where two zones share none at the apex.
use Rattle.std.proofs.Common.{◌≡◌, ◌≢◌, refl, sym, ap, ◌∙◌, subst, ℕ, suc, ◌≤◌, ◌<◌, Bool, true, false, ◌&&◌, not, ◌==◌, cond, List, [], ◌∷◌, ◌++◌, map, take, length, filter, arith, true≢false, ◌⊎◌, inl, inr, Option, None, Some, unwrap_or}
use Rattle.std.specs.Option.{IfSome, option_and_then}
use Rattle.std.specs.List.{list_any, AllByRecursion}
use Rattle.std.specs.Ordering.{is_eq}
use Rattle.std.specs.declared.cmp.Ordering.TheVariants.{Equal}
use Rattle.std.proofs.lemmas.Bool.{eqb-true}
use Rattle.std.proofs.lemmas.List.{length-map}
use Rattle.dns_name.specs.Name.{Name, is_same}
use Rattle.dns_rdata.specs.Numbers.{type_NS, type_CNAME, type_SOA}
use Rattle.dns_rdata.specs.Data.{serial_of}
use Rattle.dns_rdata.specs.Record.{Record, IsLawful, record_cmp, owner_of}
use Rattle.dns_rdata.specs.SerialOrder.{serial_less}
use Rattle.zone_tree.specs.Zone.{IsZone, is_of, rrset_of, soa_of, apex_of}
use Rattle.zone_tree.specs.Change.{is_same_record, left_out}
use Rattle.zone_tree.specs.Patch.{is_among}
use Rattle.zone_tree.specs.Version.{zone_serial, first_data}
use Rattle.zone_tree.proofs.Rising.{each_map, each_append}
use Rattle.update_core.specs.Act.{with_one, with_ttl, record_with_ttl, has_other_than_alias, has_lesser_soa, effect, effects}
use Rattle.update_core.proofs.EffectKeeps.{IsNext, effects_keep}
use Rattle.update_core.proofs.OneMore.{by_order, tied, filter-with_one_not}
use Rattle.update_core.proofs.RulesChanged.{filter-map, of_stays, ttl_owner, ttl_rtype}
use Rattle.update_core.proofs.VerdictLemmas.{rrset_of-same}
use Rattle.zone_change.specs.Change.{put_in, taken_out, steps, servers_of, first_server, with_first, HasRoom}
use Rattle.zone_change.proofs.Lists.{IsIn, both, equal_numbers, is_one, each_in, each_from, in_kept, any_in, all_kept}
use Rattle.zone_change.proofs.Steps.{plain, lawful_in, turned, row_of, no_alias_kept, CanStep, leads, not_over}
use Rattle.zone_change.proofs.Passed.{IsHomely, homely, Passes, all_pass, all_sent, added_all, deleted_all}

-- a list of one element, and one of some
pub one_of : (rs : List Record) → length rs ≡ 1 → (r : Record) × (rs ≡ r ∷ [])
one_of [] e = absurd (omega arith)
one_of (r ∷ []) e = (r, refl)
one_of (r ∷ s ∷ rs) e = absurd (omega arith)

pub some_of : (rs : List Record) → rs ≢ [] → (r : Record) × (rest : List Record) × (rs ≡ r ∷ rest)
some_of [] h = absurd (h refl)
some_of (r ∷ rs) h = (r, rs, refl)

-- zones that share an NS
can_step : (old next : List Record) → IsZone old → IsZone next → apex_of old ≡ apex_of next → serial_less (zone_serial old) (zone_serial next) ≡ true
    → (ns : Record) → is_of (apex_of next) type_NS ns ≡ true → IsIn ns old → IsIn ns next → CanStep old next
can_step old next h k apex rises ns is_ns is_present stays =
    let own = one_of (soa_of old) h.rules.one_soa in
    let new = one_of (soa_of next) k.rules.one_soa in
    record {
      old_zone = plain old h;
      next_zone = plain next k;
      soa = new.0;
      old_soa = own.0;
      has_soa = new.1;
      had_soa = own.1;
      apex = ap owner_of (sym own.1) ∙ apex ∙ ap owner_of new.1;
      rises = (λ i. serial_less (serial_of (first_data (sym own.1 i))) (serial_of (first_data (sym new.1 i)))) ∙ rises;
      ns = ns;
      is_ns = ap (λ rs. is_of (owner_of rs) type_NS ns) (sym new.1) ∙ is_ns;
      is_present = is_present;
      stays = stays;
    }

-- one more record makes a list longer by one at most
one_longer : (p : Record → Bool) (r : Record) (zs : List Record) → length (filter p (with_one r zs)) ≤ suc (length (filter p zs))
one_longer p r [] = by (p r)
  where
    by : (b : Bool) → length (cond b (r ∷ []) []) ≤ 1
    by true = omega arith
    by false = omega arith
one_longer p r (z ∷ zs) =
    by_order (λ ys. length (filter p ys) ≤ suc (length (filter p (z ∷ zs)))) r z zs (λ _. front (p r) (filter p (z ∷ zs))) (λ _. omega arith) (λ _. behind (p z) (one_longer p r zs))
  where
    front : (b : Bool) (l : List Record) → length (cond b (r ∷ l) l) ≤ suc (length l)
    front true l = omega arith
    front false l = omega arith

    behind : (b : Bool) → length (filter p (with_one r zs)) ≤ suc (length (filter p zs)) → length (cond b (z ∷ filter p (with_one r zs)) (filter p (with_one r zs))) ≤ suc (length (cond b (z ∷ filter p zs) (filter p zs)))
    behind true m = omega arith
    behind false m = m

longer : (r : Record) (zs : List Record) → length (with_one r zs) ≤ suc (length zs)
longer r zs =
    let same = λ (ys : List Record). all_kept (λ z. true) ys (each_from (λ z. true ≡ true) ys (λ z m. refl)) in
    subst (λ ys. length ys ≤ suc (length zs)) (same (with_one r zs)) (subst (λ ys. length (filter (λ z. true) (with_one r zs)) ≤ suc (length ys)) (same zs) (one_longer (λ z. true) r zs))

-- a record is among those that it was put among, where none of them ties with it and is another
one_in : (r : Record) (zs : List Record) → AllByRecursion (λ s. record_cmp r s ≡ Equal → s ≡ r) zs → IsIn r (with_one r zs)
one_in r [] h = inl refl
one_in r (z ∷ zs) h = by_order (IsIn r) r z zs (λ _. inl refl) (λ e. inl (h.0 e)) (λ _. inr (one_in r zs h.1))

-- an NS set's TTL changes no SOA
soa_stays : (owner : Name) (ttl : ℕ) (zs : List Record) → soa_of (with_ttl zs owner type_NS ttl) ≡ soa_of zs
soa_stays owner ttl [] = refl
soa_stays owner ttl (z ∷ zs) = by (is_of owner type_NS z) refl ∙ ap (λ l. cond (z.rtype == type_SOA) (z ∷ l) l) (soa_stays owner ttl zs)
  where
    rest : List Record
    rest = soa_of (with_ttl zs owner type_NS ttl)

    by : (b : Bool) → is_of owner type_NS z ≡ b → cond ((cond b (record z { ttl = ttl }) z).rtype == type_SOA) (cond b (record z { ttl = ttl }) z ∷ rest) rest ≡ cond (z.rtype == type_SOA) (z ∷ rest) rest
    by true e =
        let typed = eqb-true z.rtype type_NS (both (is_same z.owner owner) (z.rtype == type_NS) e).1 in
        let not_soa : (z.rtype == type_SOA) ≡ false = ap (λ t. t == type_SOA) typed in
        rw not_soa refl
    by false e = refl

-- what leads from a zone to another of the same apex, of a greater serial
pub record CanLead (old next : List Record) : Type 0 where
  pub old_zone : IsZone old
  pub next_zone : IsZone next
  pub apex : apex_of old ≡ apex_of next
  pub rises : serial_less (zone_serial old) (zone_serial next) ≡ true
  pub room : HasRoom old next

-- an element of the part that a take leaves
pub taken_in : (rs : List Record) (r : Record) → IsIn r (take 1 rs) → IsIn r rs
taken_in [] r k = k
taken_in (s ∷ rs) r (inl e) = inl e
taken_in (s ∷ rs) r (inr m) = absurd m

-- what a test keeps of a zone is of the zone's records
pub part_homely : (zone other : List Record) → IsZone other → apex_of other ≡ apex_of zone → (part : List Record) → ((r : Record) → IsIn r part → IsIn r other) → AllByRecursion (IsHomely zone) part
part_homely zone other h apex part f = each_from (IsHomely zone) part (λ r k. homely zone other h apex r (f r k))

-- the record that comes first passes, and the zone that it leaves is one
module _ (old next : List Record) (h : IsZone old) (k : IsZone next) (apex : apex_of old ≡ apex_of next) where
  pub first_passes : AllByRecursion (Passes old) (map put_in (first_server old next))
  first_passes = added_all old (first_server old next) (part_homely old next k (sym apex) (first_server old next) (in_next (list_any (is_among old) (servers_of next))))
    where
      in_next : (b : Bool) → (r : Record) → IsIn r (cond b [] (take 1 (servers_of next))) → IsIn r next
      in_next true r m = absurd m
      in_next false r m = (in_kept (is_of (apex_of next) type_NS) next r (taken_in (servers_of next) r m)).0

  left_by : (o : Option (List Record)) → IfSome o (IsNext old) → IsNext old (unwrap_or o old)
  left_by None m = record { is = h; apex = refl }
  left_by (Some z) m = m

  pub first_left : IsNext old (with_first old next)
  first_left =
      let rs = map put_in (first_server old next) in
      left_by (effects old rs) (effects_keep old rs h (all_sent old rs first_passes) (all_pass old rs first_passes))

  -- so do the steps that follow
  pub steps_pass : AllByRecursion (Passes old) (steps (with_first old next) next)
  steps_pass =
      let mid = with_first old next in
      let gone = left_out mid next in
      let soa = soa_of next in
      let come = left_out next mid in
      let missing = λ (other : List Record) (r : Record). not (r.rtype == type_SOA) && not (list_any (is_same_record r) other) in
      each_append (Passes old) (map taken_out gone) (map put_in soa ++ map put_in come)
      (deleted_all old gone (part_homely old mid first_left.is first_left.apex gone (λ r m. (in_kept (missing next) mid r m).0)))
      (each_append (Passes old) (map put_in soa) (map put_in come)
      (added_all old soa (part_homely old next k (sym apex) soa (λ r m. (in_kept (λ s. s.rtype == type_SOA) next r m).0)))
      (added_all old come (part_homely old next k (sym apex) come (λ r m. (in_kept (missing mid) next r m).0))))

module _ (old next : List Record) (c : CanLead old next) where
  abbrev Leads : List Record → Type 0
  Leads first = effects old (map put_in first ++ steps (unwrap_or (effects old (map put_in first)) old) next) ≡ Some next

  -- where they share one, nothing comes first
  shared : list_any (is_among old) (servers_of next) ≡ true → Leads []
  shared e =
      let found = any_in (is_among old) (servers_of next) e in
      let ns = found.0 in
      let here = in_kept (is_of (apex_of next) type_NS) next ns found.1 in
      let same = any_in (is_same_record ns) old found.2 in
      let one = is_one ns same.0 same.2 (lawful_in next (plain next c.next_zone) ns here.0) (lawful_in old (plain old c.old_zone) same.0 same.1) in
      leads old next (can_step old next c.old_zone c.next_zone c.apex c.rises ns here.1 (subst (λ r. IsIn r old) (sym one) same.1) here.0)

  -- and where they don't, the first NS of the next zone
  module _ (ns : Record) (there : IsIn ns next) (is_ns : is_of (apex_of next) type_NS ns ≡ true) (few : length old < 1000000) (few_servers : length (servers_of old) < 256) where
    lawful : IsLawful ns
    lawful = lawful_in next (plain next c.next_zone) ns there

    abbrev lasting : List Record
    lasting = with_ttl old ns.owner ns.rtype ns.ttl

    abbrev mid : List Record
    mid = with_one ns lasting

    at_apex : is_same ns.owner (apex_of old) ≡ true
    at_apex = ap (is_same ns.owner) c.apex ∙ (both (is_same ns.owner (apex_of next)) (ns.rtype == type_NS) is_ns).0

    typed : ns.rtype ≡ type_NS
    typed = eqb-true ns.rtype type_NS (both (is_same ns.owner (apex_of next)) (ns.rtype == type_NS) is_ns).1

    -- no alias stands at the apex
    no_alias : rrset_of old ns.owner type_CNAME ≡ []
    no_alias =
        let own = one_of (soa_of old) c.old_zone.rules.one_soa in
        let soa = own.0 in
        let here = in_kept (λ r. r.rtype == type_SOA) old soa (subst (IsIn soa) (sym own.1) (inl refl)) in
        let not_alias : (soa.rtype == type_CNAME) ≡ false = ap (λ t. t == type_CNAME) (eqb-true soa.rtype type_SOA here.1) in
        let none = no_alias_kept old (plain old c.old_zone) (λ z. true) soa here.0 not_alias in
        let all : filter (λ z. true) old ≡ old = all_kept (λ z. true) old (each_from (λ z. true ≡ true) old (λ z m. refl)) in
        rrset_of-same old ns.owner (apex_of old) type_CNAME at_apex
        ∙ ap (λ o. rrset_of old o type_CNAME) (ap owner_of own.1)
        ∙ ap (λ zs. rrset_of zs soa.owner type_CNAME) (sym all)
        ∙ none

    few_at : length (rrset_of mid ns.owner ns.rtype) ≤ 256
    few_at =
        let more = one_longer (is_of ns.owner ns.rtype) ns lasting in
        let owners = ttl_owner ns.owner ns.rtype ns.ttl in
        let types = ttl_rtype ns.owner ns.rtype ns.ttl in
        let f = record_with_ttl ns.owner ns.rtype ns.ttl in
        let same = ap length (filter-map f owners types (is_of ns.owner ns.rtype) (of_stays f owners types ns.owner ns.rtype) old) ∙ length-map (rrset_of old ns.owner ns.rtype) f in
        let server = ap length (ap (rrset_of old ns.owner) typed ∙ rrset_of-same old ns.owner (apex_of old) type_NS at_apex) in
        omega (arith, more, same, server, few_servers)

    few_in : length mid ≤ 1000000
    few_in =
        let more = longer ns lasting in
        let same = length-map old (record_with_ttl ns.owner ns.rtype ns.ttl) in
        omega (arith, more, same, few)

    short : length ns.rdata ≤ 4096
    short = each_in (λ r. length r.rdata ≤ 4096) next ns (plain next c.next_zone).short there

    first_is : effect old (put_in ns) ≡ Some mid
    first_is =
        let not_alias : (ns.rtype == type_CNAME) ≡ false = ap (λ t. t == type_CNAME) typed in
        let not_soa : (ns.rtype == type_SOA) ≡ false = ap (λ t. t == type_SOA) typed in
        row_of old ns lawful (ap (λ b. b && has_other_than_alias old ns.owner) not_alias) (λ i. not (not_alias i) && not (length (no_alias i) == 0)) (ap (λ b. b && not (has_lesser_soa old (put_in ns))) not_soa)
        ∙ rw (not_alias, not_soa) (rw (not_over 4096 (length ns.rdata) short, not_over 256 (length (rrset_of mid ns.owner ns.rtype)) few_at, not_over 1000000 (length mid) few_in) refl)

    effects_are : effects old (put_in ns ∷ []) ≡ Some mid
    effects_are = ap (option_and_then (λ z. effects z [])) first_is

    mid_next : IsNext old mid
    mid_next =
        let rs = put_in ns ∷ [] in
        let passes = added_all old (ns ∷ []) (homely old next c.next_zone (sym c.apex) ns there, tt) in
        subst (λ o. IfSome o (IsNext old)) effects_are (effects_keep old rs c.old_zone (all_sent old rs passes) (all_pass old rs passes))

    soa_same : soa_of mid ≡ soa_of old
    soa_same =
        filter-with_one_not (λ r. r.rtype == type_SOA) ns lasting (ap (λ t. t == type_SOA) typed)
        ∙ ap (λ t. soa_of (with_ttl old ns.owner t ns.ttl)) typed ∙ soa_stays ns.owner ns.ttl old

    -- what ties with it there is it
    is_it : (s : Record) → IsLawful s → (b : Bool) → is_of ns.owner ns.rtype s ≡ b → record_cmp ns (cond b (record s { ttl = ns.ttl }) s) ≡ Equal → cond b (record s { ttl = ns.ttl }) s ≡ ns
    is_it s k true e t =
        let same : is_same_record ns (record s { ttl = ns.ttl }) ≡ true = (λ i. is_eq (t i) && ns.ttl == ns.ttl) ∙ equal_numbers ns.ttl ns.ttl refl in
        sym (is_one ns (record s { ttl = ns.ttl }) same lawful (record { name = k.name; owner_octets = k.owner_octets; folded = k.folded; lasts = lawful.lasts; form = k.form; octets = k.octets }))
    is_it s k false e t =
        let is = tied ns s t in
        let owner = turned ns.owner s.owner is.owner in
        let rtype = equal_numbers s.rtype ns.rtype (sym is.rtype) in
        absurd (true≢false (sym (λ i. owner i && rtype i) ∙ e))

    stands_there : IsIn ns mid
    stands_there =
        one_in ns lasting
        (each_map (λ s. record_cmp ns s ≡ Equal → s ≡ ns) (record_with_ttl ns.owner ns.rtype ns.ttl) old
        (each_from (λ s. record_cmp ns (record_with_ttl ns.owner ns.rtype ns.ttl s) ≡ Equal → record_with_ttl ns.owner ns.rtype ns.ttl s ≡ ns) old
        (λ s m. is_it s (lawful_in old (plain old c.old_zone) s m) (is_of ns.owner ns.rtype s) refl)))

    by_first : Leads (ns ∷ [])
    by_first =
        let rises = ap (λ rs. serial_less (serial_of (first_data rs)) (zone_serial next)) soa_same ∙ c.rises in
        ap (option_and_then (λ z. effects z (steps (unwrap_or (effects old (put_in ns ∷ [])) old) next))) first_is
        ∙ ap (λ o. effects mid (steps (unwrap_or o old) next)) effects_are
        ∙ leads mid next (can_step mid next mid_next.is c.next_zone (mid_next.apex ∙ c.apex) rises ns is_ns stands_there there)

  pub leads_on : effects old (map put_in (first_server old next) ++ steps (with_first old next) next) ≡ Some next
  leads_on = by (list_any (is_among old) (servers_of next)) refl c.room
    where
      by : (b : Bool) → list_any (is_among old) (servers_of next) ≡ b → (b ≡ true) ⊎ ((length old < 1000000) × (length (servers_of old) < 256)) → Leads (cond b [] (take 1 (servers_of next)))
      by true e room = shared e
      by false e (inl wrong) = absurd (true≢false (sym wrong))
      by false e (inr room) =
          let found = some_of (servers_of next) c.next_zone.rules.name_servers in
          let ns = found.0 in
          let here = in_kept (is_of (apex_of next) type_NS) next ns (subst (IsIn ns) (sym found.2) (inl refl)) in
          subst Leads (ap (take 1) (sym found.2)) (by_first ns here.0 here.1 room.0 room.1)
