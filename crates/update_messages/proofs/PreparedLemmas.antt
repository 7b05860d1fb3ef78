-- The messages of an update are those of a request, and what is prepared of it.
use Rattle.std.proofs.Common.{◌≡◌, ℕ, ◌<◌, ◌≤◌, false, List, [], ◌∷◌, length, map, get_or, sym, ap, subst, ◌∙◌, arith}
use Rattle.std.specs.Prelude.{All}
use Rattle.std.specs.Cmp.Lexicographic.{pointwise}
use Rattle.std.proofs.lemmas.List.Elements.{All-cons, All-map, All-same}
use Rattle.dns_rdata.specs.Raw.{RawRecord}
use Rattle.dns_rdata.specs.Record.{Record}
use Rattle.dns_message.specs.declared.update.Update.{Update}
use Rattle.dns_message.specs.declared.update.ZoneEntry.{ZoneEntry}
use Rattle.journal.specs.Batch.{Messages, request_octets, IsRequest}
use Rattle.zone_tree.specs.Zone.{IsZone, apex_of}
use Rattle.zone_tree.specs.Change.{is_same_record}
use Rattle.zone_tree.specs.Version.{zone_serial}
use Rattle.zone_change.specs.Change.{aimed, change_to}
use Rattle.zone_change.specs.Messages.{part_octets, AreMessages}
use Rattle.zone_change.specs.Summary.{deleted_by, added_by, serial_after}
use Rattle.zone_change.proofs.MessagesLemmas.{part_long}
use Rattle.update_messages.specs.declared.prepared.PreparedChange.{PreparedChange}
use Rattle.update_messages.specs.Prepared.{IsPrepared}
use Rattle.update_messages.proofs.WrittenLemmas.{messages_read}
use Rattle.update_messages.specs.Joined.{IsRead}

abbrev HasOctets : List ℕ → Type 0
HasOctets octets = 0 < length octets

-- a message has octets: those of its header
part_some : (zone : ZoneEntry) (prerequisites records : List RawRecord) → HasOctets (part_octets zone prerequisites records)
part_some zone prerequisites records = omega (arith, part_long zone prerequisites records)

all_some : (update : Update) (messages : Messages) → AreMessages update messages → All HasOctets messages
all_some update messages are =
    let first = part_octets update.zone update.prerequisites are.first in
    let others = map (part_octets update.zone []) are.parts in
    All-same HasOctets messages (first ∷ others) are.spelt
    (All-cons HasOctets first others (part_some update.zone update.prerequisites are.first)
    (All-map HasOctets (part_octets update.zone []) are.parts (λ k d within. part_some update.zone [] (get_or are.parts k d))))

-- so they are those of a request
pub are_request : (update : Update) (messages : Messages) → AreMessages update messages → IsRequest messages
are_request update messages are = record {
  some = omega (arith, ap length are.spelt);
  short = λ k d within.
      let some = all_some update messages are k d within in
      let short = are.short k d within in
      record { some = some; short = omega (arith, short) };
}

-- an update with its messages
pub prepared : (served next : List Record) (change : PreparedChange) → IsZone served → IsZone next → apex_of served ≡ apex_of next → pointwise is_same_record served (aimed served next) ≡ false → change.update ≡ change_to served next
    → AreMessages change.update change.messages → length (request_octets change.messages) ≤ 12582912 → change.summary.from.0 ≡ zone_serial served
    → change.summary.to.0 ≡ serial_after served next → change.summary.given.0 ≡ zone_serial next → change.summary.deleted ≡ deleted_by change.update
    → change.summary.added ≡ added_by change.update → IsPrepared served next change
prepared served next change h k apex differ is messages short from to given deleted added =
    let are : AreMessages (change_to served next) change.messages = subst (λ (u : Update). AreMessages u change.messages) is messages in
    record {
      differ = differ;
      update = is;
      messages = are;
      short = short;
      read = subst (λ (u : Update). IsRead change.messages u) (sym is) (messages_read served next h k apex change.messages are);
      from = from;
      to = to;
      given = given;
      deleted = deleted ∙ ap deleted_by is;
      added = added ∙ ap added_by is;
    }
