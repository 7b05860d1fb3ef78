use Rattle.std.proofs.Common.{◌≡◌, ◌+◌, ◌-◌, ◌^◌, length, min, take}
use Rattle.dns_name.specs.Name.{wire_of}
use Rattle.zone_change.specs.Messages.{octets_in}
use Rattle.zone_change.proofs.messages.room_beside.Given as goal

-- how long the message is with the prerequisites so far
abbrev pub invariant-loop-raw : goal.invariant-loop-raw
invariant-loop-raw l = l.len ≡ min (length (wire_of l.zone.name) + 16 + octets_in l.zone.name (take l.raw-index l.prerequisites)) (2 ^ 64 - 1)
