-- What the records of the update have that takes one zone to another: none is too long for a message.
use Rattle.std.proofs.Common.{◌≡◌, refl, sym, ap, ◌∙◌, subst, ◌≤◌, Bool, true, false, not, ◌&&◌, ◌==◌, cond, if◌then◌else◌, List, [], ◌∷◌, ◌++◌, map, take, length, inl, inr, arith}
use Rattle.std.specs.Prelude.{All}
use Rattle.std.specs.List.{list_any, AllByRecursion}
use Rattle.std.specs.Cmp.Lexicographic.{pointwise}
use Rattle.std.proofs.lemmas.List.Elements.{All-contains, All-from_recursion, recursion_from_All}
use Rattle.dns_name.specs.Name.{Name, IsName, wire_of}
use Rattle.dns_rdata.specs.Limits.{max_data}
use Rattle.dns_rdata.specs.Numbers.{type_NS, type_SOA}
use Rattle.dns_rdata.specs.Record.{Record, owner_of}
use Rattle.dns_rdata.specs.Raw.{RawRecord}
use Rattle.dns_rdata.specs.SerialOrder.{serial_less, serial_next}
use Rattle.dns_message.specs.declared.update.ZoneEntry.{ZoneEntry}
use Rattle.zone_tree.specs.Zone.{IsZone, is_of, soa_of, apex_of}
use Rattle.zone_tree.specs.Change.{is_same_record, left_out}
use Rattle.zone_tree.specs.Patch.{is_among}
use Rattle.zone_tree.specs.Version.{zone_serial}
use Rattle.zone_tree.proofs.Rising.{each_append, each_map, each_weaker}
use Rattle.update_core.specs.Act.{at_serial}
use Rattle.update_core.proofs.ActKeeps.{serial_zone}
use Rattle.update_core.proofs.ListLemmas.{by_test}
use Rattle.zone_change.specs.Change.{aimed, put_in, taken_out, standing, steps, servers_of, first_server, with_first, change_records, change_to}
use Rattle.zone_change.specs.Message.{most_octets, record_octets}
use Rattle.zone_change.specs.Messages.{part_octets, IsTooLong}
use Rattle.zone_change.proofs.Lists.{IsIn, each_in, each_from, in_kept}
use Rattle.zone_change.proofs.Passed.{IsHomely, homely}
use Rattle.zone_change.proofs.First.{one_of, taken_in, first_left}
use Rattle.zone_change.proofs.MessagesLemmas.{record_long, part_long}

-- a record of a zone with this zone's apex
pub record IsOurs (zone : List Record) (r : Record) : Type 0 where
  pub homely : IsHomely zone r
  pub short : length r.rdata ≤ max_data

pub ours : (zone other : List Record) → IsZone other → apex_of other ≡ apex_of zone → (r : Record) → IsIn r other → IsOurs zone r
ours zone other h apex r m = record {
  homely = homely zone other h apex r m;
  short = each_in (λ s. length s.rdata ≤ max_data) other r (recursion_from_All (λ s. length s.rdata ≤ max_data) other h.limits.short) m;
}

-- what is so of each record of a zone, added and deleted, is so of each of an update between zones of one apex
module _ (P : RawRecord → Type 0) (old : List Record) (added : (r : Record) → IsOurs old r → P (put_in r)) (deleted : (r : Record) → IsOurs old r → P (taken_out r)) where
  part : (zone rs : List Record) → IsZone zone → apex_of zone ≡ apex_of old → ((r : Record) → IsIn r rs → IsIn r zone) → AllByRecursion (IsOurs old) rs
  part zone rs h apex f = each_from (IsOurs old) rs (λ r m. ours old zone h apex r (f r m))

  each_added : (rs : List Record) → AllByRecursion (IsOurs old) rs → AllByRecursion P (map put_in rs)
  each_added rs h = each_map P put_in rs (each_weaker (IsOurs old) (λ r. P (put_in r)) added rs h)

  each_deleted : (rs : List Record) → AllByRecursion (IsOurs old) rs → AllByRecursion P (map taken_out rs)
  each_deleted rs h = each_map P taken_out rs (each_weaker (IsOurs old) (λ r. P (taken_out r)) deleted rs h)

  module _ (next : List Record) (h : IsZone old) (k : IsZone next) (apex : apex_of old ≡ apex_of next) where
    each_first : AllByRecursion P (map put_in (first_server old next))
    each_first = each_added (first_server old next) (part next (first_server old next) k (sym apex) (in_next (list_any (is_among old) (servers_of next))))
      where
        in_next : (b : Bool) → (r : Record) → IsIn r (cond b [] (take 1 (servers_of next))) → IsIn r next
        in_next true r m = absurd m
        in_next false r m = (in_kept (is_of (apex_of next) type_NS) next r (taken_in (servers_of next) r m)).0

    each_step : AllByRecursion P (steps (with_first old next) next)
    each_step =
        let mid = with_first old next in
        let left = first_left old next h k apex in
        let gone = left_out mid next in
        let soa = soa_of next in
        let come = left_out next mid in
        let missing = λ (other : List Record) (r : Record). not (r.rtype == type_SOA) && not (list_any (is_same_record r) other) in
        each_append P (map taken_out gone) (map put_in soa ++ map put_in come)
        (each_deleted gone (part mid gone left.is left.apex (λ r m. (in_kept (missing next) mid r m).0)))
        (each_append P (map put_in soa) (map put_in come)
        (each_added soa (part next soa k (sym apex) (λ r m. (in_kept (λ s. s.rtype == type_SOA) next r m).0)))
        (each_added come (part next come k (sym apex) (λ r m. (in_kept (missing mid) next r m).0))))

    each_record : AllByRecursion P (change_records old next)
    each_record = by (pointwise is_same_record old next)
      where
        by : (b : Bool) → AllByRecursion P (cond b [] (map put_in (first_server old next) ++ steps (with_first old next) next))
        by true = tt
        by false = each_append P (map put_in (first_server old next)) (steps (with_first old next) next) each_first each_step

-- the zone that a change is to lead to is one
pub aimed_zone : (old next : List Record) → IsZone old → IsZone next → apex_of old ≡ apex_of next → IsZone (aimed old next) × (apex_of old ≡ apex_of (aimed old next))
aimed_zone old next h k apex =
    by_test (λ z. IsZone z × (apex_of old ≡ apex_of z)) (serial_less (zone_serial old) (zone_serial next)) next
    (if pointwise is_same_record old (at_serial (zone_serial old) next) then old else at_serial (serial_next (zone_serial old)) next) (λ _. (k, apex))
    (λ _. by_test (λ z. IsZone z × (apex_of old ≡ apex_of z)) (pointwise is_same_record old (at_serial (zone_serial old) next)) old (at_serial (serial_next (zone_serial old)) next)
    (λ _. (h, refl)) (λ _. let last = serial_zone (serial_next (zone_serial old)) next k in (last.is, apex ∙ sym last.apex)))

pub each_changed : (P : RawRecord → Type 0) (old next : List Record) → IsZone old → IsZone next → apex_of old ≡ apex_of next → ((r : Record) → IsOurs old r → P (put_in r))
    → ((r : Record) → IsOurs old r → P (taken_out r)) → All P (change_to old next).updates
each_changed P old next h k apex added deleted =
    let aim = aimed_zone old next h k apex in
    All-from_recursion P (change_records old (aimed old next)) (each_record P old added deleted (aimed old next) h aim.0 aim.1)

-- the record of the condition, of which a zone has one
pub record OwnSoa (zone : List Record) : Type 0 where
  pub soa : Record
  pub is : soa_of zone ≡ soa ∷ []
  pub ours : IsOurs zone soa

pub own_soa : (zone : List Record) → IsZone zone → OwnSoa zone
own_soa zone h =
    let one = one_of (soa_of zone) h.rules.one_soa in
    record { soa = one.0; is = one.1; ours = ours zone zone h refl one.0 (in_kept (λ r. r.rtype == type_SOA) zone one.0 (subst (IsIn one.0) (sym one.1) (inl refl))).0 }

-- a record whose owner is a name, and whose data a zone may have
abbrev IsSmall : RawRecord → Type 0
IsSmall raw = IsName raw.owner × (length raw.octets ≤ max_data)

record_fits : (zone : Name) (raw : RawRecord) → IsSmall raw → length (record_octets zone raw) ≤ 4363
record_fits zone raw small =
    let short : length (wire_of raw.owner) ≤ 255 = small.0.short in
    let few : length raw.octets ≤ 4096 = small.1 in
    omega (arith, record_long zone raw, short, few)

-- such a record fits into a message alone
alone_fits : (zone : ZoneEntry) (raw : RawRecord) → IsName zone.name → IsSmall raw → length (part_octets zone [] (raw ∷ [])) ≤ most_octets
alone_fits zone raw name small =
    let short : length (wire_of zone.name) ≤ 255 = name.short in
    omega (arith, part_long zone [] (raw ∷ []), record_fits zone.name raw small, short)

condition_fits : (zone : ZoneEntry) (raw : RawRecord) → IsName zone.name → IsSmall raw → length (part_octets zone (raw ∷ []) []) ≤ most_octets
condition_fits zone raw name small =
    let short : length (wire_of zone.name) ≤ 255 = name.short in
    omega (arith, part_long zone (raw ∷ []) [], record_fits zone.name raw small, short)

pub not_too_long : (old next : List Record) → IsZone old → IsZone next → apex_of old ≡ apex_of next → IsTooLong (change_to old next) → ⊥
not_too_long old next h k apex = refuted
  where
    own : OwnSoa old
    own = own_soa old h

    name : IsName (apex_of old)
    name = subst IsName (sym (ap owner_of own.is)) own.ours.homely.lawful.name

    refuted : IsTooLong (change_to old next) → ⊥
    refuted (inl over) =
        let zone = (change_to old next).zone in
        let fits : length (part_octets zone (map standing (soa_of old)) []) ≤ 65535 =
        subst (λ rs. length (part_octets zone (map standing rs) []) ≤ 65535) (sym own.is) (condition_fits zone (standing own.soa) name (own.ours.homely.lawful.name, own.ours.short)) in
        omega (arith, over, fits)
    refuted (inr one) =
        let small = each_changed IsSmall old next h k apex (λ r k. (k.homely.lawful.name, k.short)) (λ r k. (k.homely.lawful.name, k.short)) in
        omega (arith, one.2, alone_fits (change_to old next).zone one.0 name (All-contains IsSmall (change_to old next).updates one.0 small one.1))
