-- Recovery of a zone from a zone text and a journal, or why there is none (own).
use Rattle.std.specs.Prelude.{◌≡◌, ◌≢◌, ℕ, ◌<◌, Bool, List, [], length, drop, Ok, Err, ⊤}
use Rattle.dns_rdata.specs.Record.{Record}
use Rattle.zone_tree.specs.Version.{zone_serial}
use Rattle.master_file.specs.ZoneText.{zone_of_text}
use Rattle.journal.specs.Batch.{Messages}
use Rattle.journal.specs.declared.heads.Head.{Head}
use Rattle.journal.specs.declared.start.Refused.TheVariants.{NoMemory as Starved}
use Rattle.journal.specs.Head.{salt_of}
use Rattle.journal.specs.Tail.{IsBlank}
use Rattle.journal.specs.Recovered.{IsRecovered, IsRefused}
use Rattle.store_recovery.specs.declared.fault.StartFault.{StartFault}
use Rattle.store_recovery.specs.declared.fault.StartFault.TheVariants.{Journal, Text, OtherSerial, Update, NoMemory}
use Rattle.store_recovery.specs.declared.start.Ending.{Ending}
use Rattle.store_recovery.specs.declared.start.Ending.TheVariants.{Clean, Blank, Torn}
use Rattle.store_recovery.specs.declared.start.Recovery.{Recovery}
use Rattle.store_recovery.specs.Replay.{IsReplayed, IsNotTaken}

-- what is after so many octets: nothing; only zeros; others, from this position on
abbrev pub IsEnding : List ℕ → ℕ → Ending → Type 0
IsEnding octets end Clean = length octets ≡ end
IsEnding octets end Blank = (end < length octets) × IsBlank (drop end octets)
IsEnding octets end (Torn at) = (at ≡ end) × (IsBlank (drop end octets) → ⊥)

-- a recovery: the journal is this text's, the text is a zone of the serial in the head, and the journal's updates are replayed on that zone
pub record IsStarted (text octets : List ℕ) (start : Recovery) : Type 0 where
  pub messages : List Messages
  pub zone : List Record
  pub torn : Bool
  pub recovered : IsRecovered text octets start.head messages start.number start.end torn
  pub is_zone : zone_of_text [] text ≡ Ok zone
  pub serial : zone_serial zone ≡ start.head.serial
  pub replayed : IsReplayed zone messages start.newest
  pub ending : IsEnding octets start.end start.ending
  pub salt : start.salt ≡ salt_of start.head

-- a journal is this text's, with this head and these messages
pub record IsSound (text octets : List ℕ) (head : Head) (messages : List Messages) : Type 0 where
  pub number : ℕ
  pub end : ℕ
  pub torn : Bool
  pub recovered : IsRecovered text octets head messages number end torn

-- a text that is a zone, and its journal, whose messages are to be replayed on it
pub record IsPair (text octets : List ℕ) (zone : List Record) (messages : List Messages) : Type 0 where
  pub head : Head
  pub sound : IsSound text octets head messages
  pub is_zone : zone_of_text [] text ≡ Ok zone
  pub serial : zone_serial zone ≡ head.serial

-- why there is no recovery, the first of these: the journal is refused; the text is no zone; the zone's serial isn't the one in the head; an update can't be
-- applied again
abbrev pub IsStartFault : List ℕ → List ℕ → StartFault → Type 0
IsStartFault text octets (Journal why) = IsRefused text octets why × (why ≢ Starved)
IsStartFault text octets (Text fault) = (head : Head) × (messages : List Messages) × IsSound text octets head messages × (zone_of_text [] text ≡ Err fault)
IsStartFault text octets OtherSerial = (head : Head) × (messages : List Messages) × (zone : List Record) × IsSound text octets head messages
    × (zone_of_text [] text ≡ Ok zone) × (zone_serial zone ≢ head.serial)
IsStartFault text octets (Update place fault) = (zone : List Record) × (messages : List Messages) × IsPair text octets zone messages × IsNotTaken zone messages place fault
IsStartFault text octets NoMemory = ⊤
