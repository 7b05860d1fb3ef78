-- The update that takes one zone to another: what goes, the SOA, and what comes, on the condition that the zone's SOA is still
-- the old one (RFC 2136, 2.4.2, 2.5 and 3.4.2; own).
use Rattle.std.specs.Prelude.{◌≡◌, ℕ, ◌<◌, ◌==◌, false, true, ◌⊎◌, List, [], ◌++◌, length, map, take, if◌then◌else◌, None, unwrap_or}
use Rattle.std.proofs.Common.{lit<}
use Rattle.std.specs.List.{list_any}
use Rattle.std.specs.Cmp.Lexicographic.{pointwise}
use Rattle.dns_rdata.specs.Limits.{max_set}
use Rattle.dns_rdata.specs.Numbers.{type_NS, type_SOA, class_IN, class_NONE}
use Rattle.dns_rdata.specs.Record.{Record}
use Rattle.dns_rdata.specs.Raw.{RawRecord}
use Rattle.dns_rdata.specs.SerialOrder.{serial_less, serial_next}
use Rattle.dns_message.specs.declared.query.Head.{Head}
use Rattle.dns_message.specs.declared.update.Update.{Update}
use Rattle.zone_tree.specs.Limits.{max_records}
use Rattle.zone_tree.specs.Zone.{IsZone, soa_of, apex_of, rrset_of}
use Rattle.zone_tree.specs.Change.{is_same_record, left_out}
use Rattle.zone_tree.specs.Patch.{is_among}
use Rattle.zone_tree.specs.Version.{zone_serial}
use Rattle.update_core.specs.Act.{at_serial, effects}

-- the zone that a change is to lead to: the next one where its serial is greater; the old one where they differ in nothing but a serial
-- that isn't; and else the next one at the serial after the old one's (RFC 1982, 3)
abbrev pub aimed : List Record → List Record → List Record
aimed old next =
    if serial_less (zone_serial old) (zone_serial next) then next
    else if pointwise is_same_record old (at_serial (zone_serial old) next) then old
    else at_serial (serial_next (zone_serial old)) next

-- a record as an update adds it, as it deletes it, and as a prerequisite says that it stands (RFC 2136, 2.5.1, 2.5.4 and 2.4.2)
abbrev pub put_in : Record → RawRecord
put_in r = record { owner = r.owner; rtype = r.rtype; class = class_IN; ttl = r.ttl; octets = r.rdata }

abbrev pub taken_out : Record → RawRecord
taken_out r = record { owner = r.owner; rtype = r.rtype; class = class_NONE; ttl = 0; octets = r.rdata }

abbrev pub standing : Record → RawRecord
standing r = record { owner = r.owner; rtype = r.rtype; class = class_IN; ttl = 0; octets = r.rdata }

-- and of either class, of which an update's records of a zone are
abbrev pub as_sent : ℕ → Record → RawRecord
as_sent class r = record { owner = r.owner; rtype = r.rtype; class = class; ttl = if class == class_IN then r.ttl else 0; octets = r.rdata }

-- the records of an update between zones that share an NS of the apex: what goes, the SOA, and what comes. What goes is first, so that
-- an alias finds its place free, and no set passes a limit (RFC 2136, 3.4.2.2)
abbrev pub steps : List Record → List Record → List RawRecord
steps old next = map taken_out (left_out old next) ++ (map put_in (soa_of next) ++ map put_in (left_out next old))

-- the NS records of a zone's apex
abbrev pub servers_of : List Record → List Record
servers_of zone = rrset_of zone (apex_of zone) type_NS

-- the last NS of an apex isn't deleted (RFC 2136, 3.4.2.4): where two zones share none, one of the next zone's comes before all else
abbrev pub first_server : List Record → List Record → List Record
first_server old next = if list_any (is_among old) (servers_of next) then [] else take 1 (servers_of next)

-- the old zone with that record, and with it the TTL of the whole set (RFC 2181, 5.2)
abbrev pub with_first : List Record → List Record → List Record
with_first old next = unwrap_or (effects old (map put_in (first_server old next))) old

-- the records of the update from one zone to another: none where nothing changes
abbrev pub change_records : List Record → List Record → List RawRecord
change_records old next =
    if pointwise is_same_record old next then []
    else map put_in (first_server old next) ++ steps (with_first old next) next

-- two zones have the same records beside the SOA: what each has that any other zone hasn't, and the other way round, is the same
abbrev pub AreBeside : List Record → List Record → Type 0
AreBeside zone same = (other : List Record) → (left_out zone other ≡ left_out same other) × (left_out other zone ≡ left_out other same)

-- the header of such an update: its id is 0 (RFC 2136, 2.2)
abbrev pub change_head : Head
change_head = record { id = 0; opcode = 5; rd = false; four_bits = lit< tt }

-- an update of a zone, which is taken only while the zone has this SOA (RFC 2136, 2.3 and 2.4.2)
abbrev pub update_from : List Record → List RawRecord → Update
update_from old updates = record {
  head = change_head;
  edns = None;
  zone = record { name = apex_of old; rtype = record { 0 = type_SOA }; class = record { 0 = class_IN } };
  prerequisites = map standing (soa_of old);
  updates = updates;
}

-- the update that takes a zone to the one that a change is to lead to
abbrev pub change_to : List Record → List Record → Update
change_to old next = update_from old (change_records old (aimed old next))

-- there is room for an NS record that comes first: the zones share one, or the old zone has fewer records than it may have, and fewer
-- NS at its apex
abbrev pub HasRoom : List Record → List Record → Type 0
HasRoom old next = (list_any (is_among old) (servers_of next) ≡ true) ⊎ ((length old < max_records) × (length (servers_of old) < max_set))

-- a zone can be changed to another: of one apex, with room
pub record CanChange (old next : List Record) : Type 0 where
  pub old_zone : IsZone old
  pub next_zone : IsZone next
  pub apex : apex_of old ≡ apex_of next
  pub room : HasRoom old next
