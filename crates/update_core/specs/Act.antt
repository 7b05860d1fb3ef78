-- What an update does to a zone: its records in order, each on the zone that those before it leave (RFC 2136, 3.4.2), and
-- then the serial (RFC 2136, 3.6).
use Rattle.std.specs.Prelude.{◌≡◌, ℕ, ◌<◌, Bool, true, ◌&&◌, ◌||◌, not, ◌==◌, nat_lt, List, [], ◌∷◌, length, filter, map, All, bytes_eq, if◌then◌else◌, Option, None, Some, unwrap_or}
use Rattle.std.specs.Option.{option_map, option_and_then}
use Rattle.std.specs.List.{list_any}
use Rattle.std.specs.Ordering.{is_lt, is_eq}
use Rattle.std.specs.Cmp.Lexicographic.{pointwise}
use Rattle.dns_rdata.specs.Limits.{max_data, max_set}
use Rattle.zone_tree.specs.Limits.{max_records}
use Rattle.dns_name.specs.Name.{Name, IsName, fold_name, is_same}
use Rattle.dns_rdata.specs.Numbers.{type_NS, type_CNAME, type_SOA, type_ANY, class_IN, class_NONE, class_ANY}
use Rattle.dns_rdata.specs.Data.{data_of, serial_of, with_serial}
use Rattle.dns_rdata.specs.Record.{Record, record_cmp}
use Rattle.dns_rdata.specs.Raw.{RawRecord, ttl_in_zone}
use Rattle.dns_rdata.specs.SerialOrder.{serial_less, serial_next}
use Rattle.zone_tree.specs.Zone.{is_of, stands_at, rrset_of, apex_of}
use Rattle.zone_tree.specs.Change.{without_rrset, is_same_record}
use Rattle.zone_tree.specs.Version.{zone_serial}
use Rattle.dns_message.specs.declared.update.Update.{Update}
use Rattle.update_core.specs.Verdict.{has_rrset, verdict}

-- a sent record as it enters a zone: its owner and the names in its data in lower case (RFC 4343, 3; own)
abbrev pub entered : RawRecord → Record
entered r = record { owner = fold_name r.owner; rtype = r.rtype; ttl = ttl_in_zone r.ttl; rdata = unwrap_or (data_of r.rtype r.octets) r.octets }

-- records in canonical order with one more in its place; records of equal owner, type and data are one (RFC 4034, 6.1 and 6.3;
-- RFC 2181, 5)
abbrev pub with_one : Record → List Record → List Record
with_one r [] = r ∷ []
with_one r (s ∷ ss) = if is_lt (record_cmp r s) then r ∷ s ∷ ss else if is_eq (record_cmp r s) then s ∷ ss else s ∷ with_one r ss

-- a record with another TTL, where it is of one owner and type
abbrev pub record_with_ttl : Name → ℕ → ℕ → Record → Record
record_with_ttl owner rtype ttl s = if is_of owner rtype s then record s { ttl = ttl } else s

-- a zone in which the records of one owner and type have another TTL (RFC 2181, 5.2)
abbrev pub with_ttl : List Record → Name → ℕ → ℕ → List Record
with_ttl zone owner rtype ttl = map (record_with_ttl owner rtype ttl) zone

-- whether a record of another type than CNAME stands at a name
abbrev pub has_other_than_alias : List Record → Name → Bool
has_other_than_alias zone owner = list_any (λ s. stands_at owner s && not (s.rtype == type_CNAME)) zone

-- whether an SOA stands at a record's owner whose serial is less than the record's (RFC 1982, 3.2)
abbrev pub has_lesser_soa : List Record → RawRecord → Bool
has_lesser_soa zone r = list_any (λ s. is_of r.owner type_SOA s && serial_less (serial_of s.rdata) (serial_of (entered r).rdata)) zone

-- the limits of an add that has an effect: 4,096 octets of data, 256 records a set, 1,000,000 records; none beyond them (own)
abbrev pub within_limits : RawRecord → List Record → Option (List Record)
within_limits r zone =
    if nat_lt max_data (length r.octets) || nat_lt max_set (length (rrset_of zone r.owner r.rtype)) || nat_lt max_records (length zone) then None
    else Some zone

-- whether a name and a type are the apex's SOA or NS
abbrev pub is_apex_set : List Record → Name → ℕ → Bool
is_apex_set zone owner rtype = is_same owner (apex_of zone) && (rtype == type_SOA || rtype == type_NS)

-- whether a name and a type are the apex's SOA, or its NS where that is one record
abbrev pub is_last_apex_record : List Record → Name → ℕ → Bool
is_last_apex_record zone owner rtype =
    is_same owner (apex_of zone) && (rtype == type_SOA || (rtype == type_NS && length (rrset_of zone owner type_NS) == 1))

-- what one record of an update makes of a zone, row by row; none where a limit is passed (RFC 2136, 3.4.2.2 to 3.4.2.4)
abbrev pub effect : List Record → RawRecord → Option (List Record)
effect zone r =
    if r.class == class_IN && r.rtype == type_CNAME && has_other_than_alias zone r.owner then Some zone
    else if r.class == class_IN && not (r.rtype == type_CNAME) && has_rrset zone r.owner type_CNAME then Some zone
    else if r.class == class_IN && r.rtype == type_SOA && not (has_lesser_soa zone r) then Some zone
    else if r.class == class_IN && (r.rtype == type_CNAME || r.rtype == type_SOA) then within_limits r (with_one (entered r) (without_rrset zone r.owner r.rtype))
    else if r.class == class_IN then within_limits r (with_one (entered r) (with_ttl zone r.owner r.rtype (ttl_in_zone r.ttl)))
    else if r.class == class_ANY && r.rtype == type_ANY then Some (filter (λ s. not (stands_at r.owner s) || is_apex_set zone s.owner s.rtype) zone)
    else if r.class == class_ANY then Some (filter (λ s. not (is_of r.owner r.rtype s) || is_apex_set zone s.owner s.rtype) zone)
    else if r.class == class_NONE then Some (filter (λ s. not (is_of r.owner r.rtype s && bytes_eq r.octets s.rdata) || is_last_apex_record zone s.owner s.rtype) zone)
    else Some zone

-- the effects of an update's records in order; none where one passes a limit (RFC 2136, 3.4.2)
abbrev pub effects : List Record → List RawRecord → Option (List Record)
effects zone [] = Some zone
effects zone (r ∷ rs) = option_and_then (λ next. effects next rs) (effect zone r)

-- a record with another serial, where it is an SOA
abbrev pub record_at_serial : ℕ → Record → Record
record_at_serial serial s = if s.rtype == type_SOA then record s { rdata = with_serial serial s.rdata } else s

-- a zone with another serial
abbrev pub at_serial : ℕ → List Record → List Record
at_serial serial zone = map (record_at_serial serial) zone

-- what a zone becomes whose records were changed into others: nothing new where they are the same, and else a zone of a greater
-- serial: where the update set none, the one after the old one's (RFC 2136, 3.6; RFC 1982, 3)
abbrev pub completed : List Record → List Record → List Record
completed zone after =
    if pointwise is_same_record zone after then zone
    else if serial_less (zone_serial zone) (zone_serial after) then after
    else at_serial (serial_next (zone_serial zone)) after

-- the zone after an update that each rule let through: the zone itself where nothing changes; none where a limit is passed, which is
-- told as SERVFAIL (RFC 2136, 3.4.2 and 3.6; own)
abbrev pub act : List Record → Update → Option (List Record)
act zone update = option_map (completed zone) (effects zone update.updates)

-- the zone after several updates, each on the zone that those before it leave; one that passes a limit changes nothing
abbrev pub replay : List Record → List Update → List Record
replay zone [] = zone
replay zone (update ∷ updates) = replay (unwrap_or (act zone update) zone) updates

-- what each record of an update that is read keeps: its owner is a name, and its owner and its data are octets (RFC 1035, 2.3.4 and
-- 4.1.3)
pub record IsSent (r : RawRecord) : Type 0 where
  pub name : IsName r.owner
  pub owner_octets : All (All (λ octet. octet < 256)) r.owner
  pub octets : All (λ octet. octet < 256) r.octets

-- updates that come one after another are taken: each is of records that were read, and no rule gives it a code in the zone that
-- those before it leave (RFC 2136, 3)
abbrev pub AreTaken : List Record → List Update → Type 0
AreTaken zone [] = Unit {0}
AreTaken zone (update ∷ updates) = All IsSent update.updates × (verdict zone update true ≡ None) × AreTaken (unwrap_or (act zone update) zone) updates
