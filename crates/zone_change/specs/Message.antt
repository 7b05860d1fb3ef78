-- The octets of an update that takes one zone to another, as one message (RFC 1035, 4.1; RFC 2136, 2).
use Rattle.std.specs.Prelude.{ℕ, ◌-◌, List, [], ◌∷◌, ◌++◌, length, take, flat_map}
use Rattle.std.specs.Int.{w16, w32, to_be_bytes}
use Rattle.dns_name.specs.Name.{Name, wire_of}
use Rattle.dns_rdata.specs.Raw.{RawRecord}
use Rattle.dns_message.specs.declared.update.Update.{Update}
use Rattle.dns_message.specs.declared.update.ZoneEntry.{ZoneEntry}

-- the most octets of a message, which a frame's length can say (RFC 1035, 4.2.2)
abbrev pub most_octets : ℕ
most_octets = 65535

-- an owner at or below the zone's name: its labels before that name, and a pointer to the name, which stands after the header's twelve
-- octets (RFC 1035, 4.1.4)
abbrev pub owner_octets : Name → Name → List ℕ
owner_octets zone owner = take (length (wire_of owner) - length (wire_of zone)) (wire_of owner) ++ 192 ∷ 12 ∷ []

-- a record: its owner, its type, class and TTL, and how many octets its data have, and these, names in full (RFC 1035, 4.1.3)
abbrev pub record_octets : Name → RawRecord → List ℕ
record_octets zone r =
    owner_octets zone r.owner ++ (to_be_bytes w16 r.rtype ++ (to_be_bytes w16 r.class ++ (to_be_bytes w32 r.ttl ++ (to_be_bytes w16 (length r.octets) ++ r.octets))))

-- the zone section (RFC 2136, 2.3)
abbrev pub zone_octets : ZoneEntry → List ℕ
zone_octets zone = wire_of zone.name ++ (to_be_bytes w16 zone.rtype.0 ++ to_be_bytes w16 zone.class.0)

-- the header: an id of 0, OPCODE UPDATE, one zone, and how many prerequisites and updates there are (RFC 2136, 2.2)
abbrev pub head_octets : ℕ → ℕ → List ℕ
head_octets prerequisites updates = 0 ∷ 0 ∷ 40 ∷ 0 ∷ 0 ∷ 1 ∷ to_be_bytes w16 prerequisites ++ (to_be_bytes w16 updates ++ 0 ∷ 0 ∷ [])

-- a message of these records
abbrev pub message_octets : Update → List ℕ
message_octets update =
    head_octets (length update.prerequisites) (length update.updates)
    ++ (zone_octets update.zone ++ (flat_map (record_octets update.zone.name) update.prerequisites ++ flat_map (record_octets update.zone.name) update.updates))
