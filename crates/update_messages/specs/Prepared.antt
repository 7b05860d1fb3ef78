-- The update that takes a zone to another one, as it is stored and submitted (RFC 2136; own).
use Rattle.std.specs.Prelude.{◌≡◌, ◌≤◌, ◌<◌, ⊤, List, false, length}
use Rattle.std.specs.Cmp.Lexicographic.{pointwise}
use Rattle.dns_name.specs.Name.{is_same}
use Rattle.dns_rdata.specs.Record.{Record}
use Rattle.dns_message.specs.declared.update.Update.{Update}
use Rattle.journal.specs.Batch.{Messages, request_octets}
use Rattle.zone_tree.specs.Zone.{apex_of}
use Rattle.zone_tree.specs.Change.{is_same_record}
use Rattle.zone_tree.specs.Version.{zone_serial}
use Rattle.zone_change.specs.declared.fault.ChangeFault.TheVariants.{OtherApex, NoRoom, TooLong, NoMemory as no_memory}
use Rattle.zone_change.specs.Change.{aimed, change_to, HasRoom}
use Rattle.zone_change.specs.Messages.{AreMessages}
use Rattle.zone_change.specs.Summary.{deleted_by, added_by, serial_after}
use Rattle.update_messages.specs.Joined.{IsRead}
use Rattle.update_messages.specs.declared.prepare_fault.PrepareFault.{PrepareFault}
use Rattle.update_messages.specs.declared.prepare_fault.PrepareFault.TheVariants.{Change as no_change, TooLarge, NoMemory}
use Rattle.update_messages.specs.declared.prepared.Prepared.{Prepared}
use Rattle.update_messages.specs.declared.prepared.Prepared.TheVariants.{Unchanged, Change}
use Rattle.update_messages.specs.declared.prepared.PreparedChange.{PreparedChange}

-- the update that takes a zone to another one, from which it differs, with its messages, which have room in a frame and are read as that update; and
-- what it changes, in numbers
pub record IsPrepared (served next : List Record) (prepared : PreparedChange) : Type 0 where
  pub differ : pointwise is_same_record served (aimed served next) ≡ false
  pub update : prepared.update ≡ change_to served next
  pub messages : AreMessages (change_to served next) prepared.messages
  pub short : length (request_octets prepared.messages) ≤ 12582912
  pub read : IsRead prepared.messages prepared.update
  pub from : prepared.summary.from.0 ≡ zone_serial served
  pub to : prepared.summary.to.0 ≡ serial_after served next
  pub given : prepared.summary.given.0 ≡ zone_serial next
  pub deleted : prepared.summary.deleted ≡ deleted_by (change_to served next)
  pub added : prepared.summary.added ≡ added_by (change_to served next)

-- what another zone makes of a zone: a change to it leads nowhere else, and this is the serial; or such an update
abbrev pub IsPreparedFrom : List Record → List Record → Prepared → Type 0
IsPreparedFrom served next (Unchanged serial) = (aimed served next ≡ served) × (serial.0 ≡ zone_serial served)
IsPreparedFrom served next (Change change) = IsPrepared served next change

-- an update has messages, but they have more octets in a batch than have room in a frame
pub record IsTooLarge (update : Update) : Type 0 where
  pub messages : Messages
  pub are_messages : AreMessages update messages
  pub large : 12582912 < length (request_octets messages)

-- why an update has no messages that have room in a frame, where none of its records is too long for a message
abbrev pub IsMessagesFault : Update → PrepareFault → Type 0
IsMessagesFault update (no_change no_memory) = ⊤
IsMessagesFault update (no_change fault) = ⊥
IsMessagesFault update TooLarge = IsTooLarge update
IsMessagesFault update NoMemory = ⊤

-- why no update is made that takes a zone to another one: they have different apexes, or they share no NS and there is no room for another one
-- (RFC 2136, 3.4.2.4); or the update has too many octets; or there is no memory. No record of a zone has too many octets for a message
abbrev pub IsPrepareFault : List Record → List Record → PrepareFault → Type 0
IsPrepareFault served next (no_change OtherApex) = is_same (apex_of served) (apex_of next) ≡ false
IsPrepareFault served next (no_change NoRoom) = HasRoom served next → ⊥
IsPrepareFault served next (no_change TooLong) = ⊥
IsPrepareFault served next (no_change no_memory) = ⊤
IsPrepareFault served next TooLarge = IsTooLarge (change_to served next)
IsPrepareFault served next NoMemory = ⊤
