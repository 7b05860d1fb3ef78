-- What an update changes that takes a zone to another, in numbers (RFC 2136, 2.5).
use Rattle.std.specs.Prelude.{ℕ, Bool, ◌==◌, ◌&&◌, not, List, count_by, if◌then◌else◌}
use Rattle.dns_rdata.specs.Numbers.{class_NONE, type_SOA}
use Rattle.dns_rdata.specs.Record.{Record}
use Rattle.dns_rdata.specs.Raw.{RawRecord}
use Rattle.dns_rdata.specs.SerialOrder.{serial_less, serial_next}
use Rattle.dns_message.specs.declared.update.Update.{Update}
use Rattle.zone_tree.specs.Version.{zone_serial}

-- whether a record of an update section deletes one of a zone (RFC 2136, 2.5.4)
abbrev pub is_deletion : RawRecord → Bool
is_deletion raw = raw.class == class_NONE

-- whether it adds one that isn't an SOA (RFC 2136, 2.5.1)
abbrev pub is_addition : RawRecord → Bool
is_addition raw = not (raw.class == class_NONE) && not (raw.rtype == type_SOA)

-- how many records an update deletes, and how many it adds beside the SOA
abbrev pub deleted_by : Update → ℕ
deleted_by update = count_by is_deletion update.updates

abbrev pub added_by : Update → ℕ
added_by update = count_by is_addition update.updates

-- the serial of the zone that a change leads to: the next zone's where it is greater, and else the one after the old zone's (RFC 1982, 3)
abbrev pub serial_after : List Record → List Record → ℕ
serial_after old next = if serial_less (zone_serial old) (zone_serial next) then zone_serial next else serial_next (zone_serial old)
