-- Each effect of an update that the prescan let through makes a zone of the same apex (RFC 2136, 3.4.1 and 3.4.2).
use Rattle.std.proofs.Common.{◌≡◌, Bool, true, false, not, ◌&&◌, ◌||◌, ◌==◌, if◌then◌else◌, List, [], ◌∷◌, All, Option, None, Some, bytes_eq, refl, ap, subst, ◌∙◌}
use Rattle.std.specs.Option.{IfSome, option_or, option_and_then}
use Rattle.std.proofs.lemmas.List.Elements.{All-head, All-tail}
use Rattle.dns_name.specs.Name.{Name, is_under}
use Rattle.dns_rdata.specs.declared.numbers.Rcode.{Rcode}
use Rattle.dns_rdata.specs.declared.numbers.Rcode.TheVariants.{FormErr, Refused, NotZone}
use Rattle.dns_rdata.specs.Numbers.{type_NS, type_CNAME, type_SOA, type_ANY, class_IN, class_NONE, class_ANY}
use Rattle.dns_rdata.specs.Record.{Record}
use Rattle.dns_rdata.specs.Raw.{RawRecord, ttl_in_zone}
use Rattle.zone_tree.specs.Zone.{IsZone, KeepsLimits, is_of, stands_at, apex_of, is_wild}
use Rattle.zone_tree.specs.Change.{without_rrset}
use Rattle.update_core.specs.Verdict.{has_rrset, is_empty, is_recognised, has_form, prescan_of, prescan}
use Rattle.update_core.specs.Act.{with_ttl, has_other_than_alias, has_lesser_soa, within_limits, is_apex_set, is_last_apex_record, effect, effects, IsSent}
use Rattle.update_core.proofs.ListLemmas.{by_test, and_left, and_right, both_fail, right_fails}
use Rattle.update_core.proofs.SentLemmas.{no_first, passed, entered_lawful}
use Rattle.update_core.proofs.Candidates.{put_in, added_to, without_all, without_set, without_record, Keeps, IsPut, IsAdded}
use Rattle.update_core.proofs.RowsKeep.{all_keeps_rules, set_keeps_rules, record_keeps_rules}
use Rattle.update_core.proofs.AddsKeep.{put_keeps_rules, add_keeps_rules}
use Rattle.update_core.proofs.LimitsKept.{small_from, filter_limits, filter_small, ttl_small_sets, within, entered_limits}

-- a zone of the same apex
pub record IsNext (zone next : List Record) : Type 0 where
  pub is : IsZone next
  pub apex : apex_of next ≡ apex_of zone

pub next_from : (zone next : List Record) → Keeps zone next → KeepsLimits next → IsNext zone next
next_from zone next h limits = record { is = record { rules = h.rules; limits = limits }; apex = h.apex }

-- the tests of the rows that add
third_fails : (a b c : Bool) → a && b && c ≡ false → a ≡ true → b && c ≡ false
third_fails true b c e is = e
third_fails false b c e is = cc

module _ (zone : List Record) (r : RawRecord) (h : IsZone zone) (sent : IsSent r) (scanned : prescan_of zone r ≡ None) where
  abbrev GivesNext : Option (List Record) → Type 0
  GivesNext o = IfSome o (IsNext zone)

  stays : IsNext zone zone
  stays = record { is = h; apex = refl }

  put_next : IsPut zone r → GivesNext (within_limits r (put_in zone r))
  put_next is =
      within r (put_in zone r) (IsNext zone)
      (λ fits. next_from zone (put_in zone r) (put_keeps_rules zone r h.rules sent scanned is)
      (entered_limits r (without_rrset zone r.owner r.rtype) (filter_small (λ s. not (is_of r.owner r.rtype s)) zone (small_from zone h.limits)) (entered_lawful r sent (passed zone r scanned is.class).form).len fits))

  add_next : IsAdded zone r → GivesNext (within_limits r (added_to zone r))
  add_next is =
      within r (added_to zone r) (IsNext zone)
      (λ fits. next_from zone (added_to zone r) (add_keeps_rules zone r h.rules sent scanned is)
      (entered_limits r (with_ttl zone r.owner r.rtype (ttl_in_zone r.ttl)) (ttl_small_sets r.owner r.rtype (ttl_in_zone r.ttl) zone (small_from zone h.limits)) (entered_lawful r sent (passed zone r scanned is.class).form).len fits))

  all_next : IsNext zone (without_all zone r)
  all_next = next_from zone (without_all zone r) (all_keeps_rules zone r h.rules) (filter_limits (λ s. not (stands_at r.owner s) || is_apex_set zone s.owner s.rtype) zone h.limits)

  set_next : IsNext zone (without_set zone r)
  set_next = next_from zone (without_set zone r) (set_keeps_rules zone r h.rules) (filter_limits (λ s. not (is_of r.owner r.rtype s) || is_apex_set zone s.owner s.rtype) zone h.limits)

  record_next : IsNext zone (without_record zone r)
  record_next =
      next_from zone (without_record zone r) (record_keeps_rules zone r h.rules)
      (filter_limits (λ s. not (is_of r.owner r.rtype s && bytes_eq r.octets s.rdata) || is_last_apex_record zone s.owner s.rtype) zone h.limits)

  abbrev add_alias_test : Bool
  add_alias_test = r.class == class_IN && r.rtype == type_CNAME && has_other_than_alias zone r.owner

  abbrev add_beside_test : Bool
  add_beside_test = r.class == class_IN && not (r.rtype == type_CNAME) && has_rrset zone r.owner type_CNAME

  abbrev add_soa_test : Bool
  add_soa_test = r.class == class_IN && r.rtype == type_SOA && not (has_lesser_soa zone r)

  abbrev put_test : Bool
  put_test = r.class == class_IN && (r.rtype == type_CNAME || r.rtype == type_SOA)

  is_put : add_alias_test ≡ false → add_beside_test ≡ false → add_soa_test ≡ false → put_test ≡ true → IsPut zone r
  is_put alias beside soa put =
      let class = and_left (r.class == class_IN) (r.rtype == type_CNAME || r.rtype == type_SOA) put in
      record {
        class = class;
        one = and_right (r.class == class_IN) (r.rtype == type_CNAME || r.rtype == type_SOA) put;
        no_other = third_fails (r.class == class_IN) (r.rtype == type_CNAME) (has_other_than_alias zone r.owner) alias class;
        no_alias = third_fails (r.class == class_IN) (not (r.rtype == type_CNAME)) (has_rrset zone r.owner type_CNAME) beside class;
        lesser = third_fails (r.class == class_IN) (r.rtype == type_SOA) (not (has_lesser_soa zone r)) soa class;
      }

  is_added : add_beside_test ≡ false → put_test ≡ false → (r.class == class_IN) ≡ true → IsAdded zone r
  is_added beside put class =
      let many = right_fails (r.class == class_IN) (r.rtype == type_CNAME || r.rtype == type_SOA) put class in
      let other = (both_fail (r.rtype == type_CNAME) (r.rtype == type_SOA) many).0 in
      record {
        class = class;
        many = many;
        no_alias = right_fails (not (r.rtype == type_CNAME)) (has_rrset zone r.owner type_CNAME) (third_fails (r.class == class_IN) (not (r.rtype == type_CNAME)) (has_rrset zone r.owner type_CNAME) beside class) (ap not other);
      }

  pub effect_gives : IfSome (effect zone r) (IsNext zone)
  effect_gives =
      let e8 : Option (List Record) = if r.class == class_NONE then Some (without_record zone r) else Some zone in
      let e7 : Option (List Record) = if r.class == class_ANY then Some (without_set zone r) else e8 in
      let e6 : Option (List Record) = if r.class == class_ANY && r.rtype == type_ANY then Some (without_all zone r) else e7 in
      let e5 : Option (List Record) = if r.class == class_IN then within_limits r (added_to zone r) else e6 in
      let e4 : Option (List Record) = if put_test then within_limits r (put_in zone r) else e5 in
      let e3 : Option (List Record) = if add_soa_test then Some zone else e4 in
      let e2 : Option (List Record) = if add_beside_test then Some zone else e3 in
      by_test GivesNext add_alias_test (Some zone) e2 (λ _. stays)
      (λ alias. by_test GivesNext add_beside_test (Some zone) e3 (λ _. stays)
      (λ beside. by_test GivesNext add_soa_test (Some zone) e4 (λ _. stays)
      (λ soa. by_test GivesNext put_test (within_limits r (put_in zone r)) e5 (λ put. put_next (is_put alias beside soa put))
      (λ put. by_test GivesNext (r.class == class_IN) (within_limits r (added_to zone r)) e6 (λ class. add_next (is_added beside put class))
      (λ _. by_test GivesNext (r.class == class_ANY && r.rtype == type_ANY) (Some (without_all zone r)) e7 (λ _. all_next)
      (λ _. by_test GivesNext (r.class == class_ANY) (Some (without_set zone r)) e8 (λ _. set_next)
      (λ _. by_test GivesNext (r.class == class_NONE) (Some (without_record zone r)) (Some zone) (λ _. record_next) (λ _. stays))))))))

pub what_gives : (o : Option (List Record)) (P : List Record → Type 0) (next : List Record) → IfSome o P → o ≡ Some next → P next
what_gives None P next h e = cc
what_gives (Some x) P next h e = let same : x ≡ next = cc in subst P same h

pub effect_keeps : (zone next : List Record) (r : RawRecord) → IsZone zone → IsSent r → prescan_of zone r ≡ None → effect zone r ≡ Some next → IsNext zone next
effect_keeps zone next r h sent scanned e = what_gives (effect zone r) (IsNext zone) next (effect_gives zone r h sent scanned) e

-- the prescan asks the zone for its apex alone
abbrev scanned_at : Name → RawRecord → Option Rcode
scanned_at apex r =
    if not (is_under r.owner apex) then Some NotZone
    else if r.class == class_IN && not (has_form r) then Some FormErr
    else if r.class == class_IN && r.rtype == type_NS && is_wild r.owner then Some Refused
    else if r.class == class_ANY && (not (r.ttl == 0) || not (is_empty r) || not (r.rtype == type_ANY || is_recognised r.rtype)) then Some FormErr
    else if r.class == class_NONE && (not (r.ttl == 0) || not (has_form r)) then Some FormErr
    else if not (r.class == class_IN || r.class == class_ANY || r.class == class_NONE) then Some FormErr
    else None

pub same_prescan_of : (zone next : List Record) (r : RawRecord) → apex_of next ≡ apex_of zone → prescan_of next r ≡ prescan_of zone r
same_prescan_of zone next r same = ap (λ apex. scanned_at apex r) same

pub same_prescan : (zone next : List Record) (rs : List RawRecord) → apex_of next ≡ apex_of zone → prescan next rs ≡ prescan zone rs
same_prescan zone next [] same = refl
same_prescan zone next (r ∷ rs) same = λ i. option_or (same_prescan_of zone next r same i) (same_prescan zone next rs same i)

-- and so do all effects of an update
then_next : (zone : List Record) (o : Option (List Record)) (rs : List RawRecord) → IfSome o (IsNext zone) → ((next : List Record) → IsNext zone next → IfSome (effects next rs) (IsNext next)) → IfSome (option_and_then (λ next. effects next rs) o) (IsNext zone)
then_next zone None rs h more = tt
then_next zone (Some next) rs h more = chained (effects next rs) (more next h)
  where
    chained : (o : Option (List Record)) → IfSome o (IsNext next) → IfSome o (IsNext zone)
    chained None k = tt
    chained (Some last) k = record { is = k.is; apex = k.apex ∙ h.apex }

pub effects_keep : (zone : List Record) (rs : List RawRecord) → IsZone zone → All IsSent rs → prescan zone rs ≡ None → IfSome (effects zone rs) (IsNext zone)
effects_keep zone [] h sent scanned = record { is = h; apex = refl }
effects_keep zone (r ∷ rs) h sent scanned =
    let both = no_first (prescan_of zone r) (prescan zone rs) scanned in
    then_next zone (effect zone r) rs (effect_gives zone r h (All-head IsSent r rs sent) both.0)
    (λ next k. effects_keep next rs k.is (All-tail IsSent r rs sent) (same_prescan zone next rs k.apex ∙ both.1))
