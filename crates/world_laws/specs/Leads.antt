-- What a transfer that a line asks for leads to: whoever holds the version that is told, and takes its records, holds the version
-- that is served (RFC 1995, 4; RFC 5936, 2.2).
use Rattle.std.specs.Prelude.{◌≡◌, ◌≢◌, ℕ, zero, suc, ◌+◌, ◌-◌, ◌<◌, ◌≤◌, ◌⊎◌, true, false, List, [], ◌∷◌, length, map, take, All, Some, Ok}
use Rattle.std.specs.List.{slice_get, flat_map}
use Rattle.cell_core.specs.Cell.{Cell}
use Rattle.cell_core.specs.Shows.{Shows}
use Rattle.cell_core.specs.Words.{State}
use Rattle.dns_message.specs.declared.query.Query.{Query as QueryAsked}
use Rattle.dns_message.specs.declared.update.Update.{Update as DynamicUpdate}
use Rattle.dns_message.specs.Message.{Message}
use Rattle.dns_name.specs.Name.{Name}
use Rattle.dns_rdata.specs.declared.numbers.Serial.{Serial}
use Rattle.dns_rdata.specs.Raw.{RawRecord}
use Rattle.dns_rdata.specs.Record.{Record}
use Rattle.dns_rdata.specs.SerialOrder.{serial_less}
use Rattle.transfer_core.specs.Lists.{as_sent, full, incremental}
use Rattle.transfer_core.specs.Packed.{spelt, octets_of}
use Rattle.transfer_core.specs.Take.{take as taken_by}
use Rattle.update_core.specs.Act.{replay}
use Rattle.zone_tree.specs.Version.{Version as Numbered, zone_serial}
use Rattle.zone_tree.specs.Zone.{soa_of}
use Rattle.world_run.specs.declared.entries.Entry.{Entry}
use Rattle.world_run.specs.declared.step.WorldReply.{WorldReply}
use Rattle.world_run.specs.declared.step.WorldStep.{WorldStep}
use Rattle.world_laws.specs.Held.{HoldVersions, is_updating}
use Rattle.world_laws.specs.Replays.{IsSent, IsReplayed}
use Rattle.world_run.specs.World.{World, started, version_of, play}

-- what lines send as updates are octets (RFC 1035, 2.3.2)
abbrev pub AreOctets : List WorldStep → Type 0
AreOctets lines = (request : List ℕ) → IsSent lines request → All (λ octet. octet < 256) request

-- each entry of the window has the serial of the version of its number, and while no update is under way these are the newest versions,
-- in turn (RFC 1995, 5; own)
pub record HaveSerials (first : List Record) (lines : List WorldStep) (world : World) : Type 0 where
  pub replayed : IsReplayed first lines world
  pub serials : (place : ℕ) (entry : Entry) → slice_get world.entries place ≡ Some entry
      → (entry.number ≤ length replayed.updates) × (entry.serial.0 ≡ zone_serial (replay first (take entry.number replayed.updates)))
  pub newest : is_updating world ≡ false → (place : ℕ) (entry : Entry) → slice_get world.entries place ≡ Some entry
      → entry.number + length world.entries ≡ length replayed.updates + 1 + place

-- the records of messages, as one who asked is sent them (RFC 5936, 2.2)
abbrev pub records_of : List Message → List RawRecord
records_of messages = map as_sent (flat_map (λ m. m.answer) messages)

-- whoever holds any of the versions, and takes the records, holds this version (RFC 5936, 2.2)
abbrev pub LeadFromAny : List Record → List DynamicUpdate → Numbered → List RawRecord → Type 0
LeadFromAny first updates version records = (asker : ℕ) → asker ≤ length updates → taken_by (replay first (take asker updates)) records ≡ Ok version.zone

-- the zones of so many versions after the one of a number
abbrev pub zones_behind : List Record → List DynamicUpdate → ℕ → ℕ → List (List Record)
zones_behind first updates number zero = []
zones_behind first updates number (suc more) = replay first (take (number + 1) updates) ∷ zones_behind first updates (number + 1) more

-- the records are what changed since the newest version, of those up to this one, that has the serial which is told: whoever holds that,
-- and takes them, holds this version (RFC 1995, 3 and 4)
pub record LeadFromAsker (first : List Record) (updates : List DynamicUpdate) (version : Numbered) (serial : Serial) (name : Name) (records : List RawRecord) : Type 0 where
  pub asker : ℕ
  pub before : asker < version.number
  pub serial_is : zone_serial (replay first (take asker updates)) ≡ serial.0
  pub newest : (number : ℕ) → asker < number → number ≤ version.number → zone_serial (replay first (take number updates)) ≢ serial.0
  pub changes : records ≡ map as_sent (map (spelt name) (incremental (replay first (take asker updates)) (zones_behind first updates asker (version.number - asker))))
  pub taken : taken_by (replay first (take asker updates)) records ≡ Ok version.zone

-- the words show a cell in which a number is buried (own)
abbrev pub IsBuriedIn : State Numbered → ℕ → Type 0
IsBuriedIn words number = (cell : Cell Numbered) × Shows words cell × (cell.buried number ≡ true)

-- what changed since a serial up to a version isn't told: no entry of the window before that version has the serial, or one of the
-- versions after that of an entry with the serial, up to that version, is buried (RFC 1995, 4; own)
abbrev pub IsUntold : List Entry → State Numbered → Numbered → Serial → Type 0
IsUntold entries words version serial =
    ((place : ℕ) (entry : Entry) → slice_get entries place ≡ Some entry → entry.number < version.number → entry.serial.0 ≢ serial.0)
    ⊎ ((place : ℕ) × (entry : Entry) × (number : ℕ) × (slice_get entries place ≡ Some entry) × (entry.serial.0 ≡ serial.0) × (entry.number < number) × (number ≤ version.number) × IsBuriedIn words number)

-- the messages of an IXFR of a version: where the serial that it tells isn't less than that version's, its SOA alone; else what changed since
-- the version that is told, which leads there from that one; or, where that isn't told, by the window's entries and the words after, the
-- version in whole, which leads there from any (RFC 1995, 2 and 4)
pub record AnswerIxfr (first : List Record) (updates : List DynamicUpdate) (entries : List Entry) (words : State Numbered) (version : Numbered) (query : QueryAsked) (octets : List (List ℕ)) : Type 0 where
  pub served : version.zone ≡ replay first (take version.number updates)
  pub serial : Serial
  pub asks : query.serial ≡ Some serial
  pub messages : List Message
  pub sent : octets ≡ octets_of messages
  pub leads : ((serial_less serial.0 (zone_serial version.zone) ≡ false) × (records_of messages ≡ map as_sent (map (spelt query.question.name) (soa_of version.zone))))
      ⊎ (((records_of messages ≡ map as_sent (map (spelt query.question.name) (full version.zone))) × LeadFromAny first updates version (records_of messages) × IsUntold entries words version serial)
      ⊎ LeadFromAsker first updates version serial query.question.name (records_of messages))

-- an IXFR gets this of the version that a name holds, by the window then and the world after its line (own)
pub record AnswerFor (first : List Record) (lines : List WorldStep) (world after : World) (name : List ℕ) (query : QueryAsked) (octets : List (List ℕ)) : Type 0 where
  pub held : HoldVersions first lines world
  pub version : Numbered
  pub has : version_of name world ≡ Some version
  pub answer : AnswerIxfr first held.replayed.updates world.entries after.words version query octets

-- or of the version that the name held before the line at a place, by the window then (own)
pub record AnswerSince (first : List Record) (keep window : ℕ) (lines : List WorldStep) (world after : World) (place : ℕ) (name : List ℕ) (query : QueryAsked) (octets : List (List ℕ)) : Type 0 where
  pub replayed : IsReplayed first lines world
  pub earlier : List WorldReply
  pub before : World
  pub reached : play (started first keep window) (take place lines) ≡ Some (earlier, before)
  pub version : Numbered
  pub has : version_of name before ≡ Some version
  pub answer : AnswerIxfr first replayed.updates before.entries after.words version query octets
