-- A list that is taken record by record, out of messages that come one after another (RFC 5936, 2.2; RFC 1995, 4).
use Rattle.std.specs.Prelude.{◌≡◌, ℕ, true, List, [], ◌∷◌, ◌++◌, ◌⊎◌, unwrap_or, Result, Ok, Err, MatchResult}
use Rattle.std.specs.List.{flat_map}
use Rattle.dns_name.specs.Name.{Name}
use Rattle.dns_rdata.specs.Record.{Record, IsLawful}
use Rattle.dns_rdata.specs.Raw.{RawRecord}
use Rattle.dns_message.specs.Received.{received_records}
use Rattle.zone_tree.specs.Zone.{apex_of}
use Rattle.transfer_core.specs.declared.fault.TransferFault.{TransferFault}
use Rattle.transfer_core.specs.declared.fault.TransferFault.TheVariants.{NoMemory}
use Rattle.transfer_in.specs.declared.taking.Progress.{Progress}
use Rattle.transfer_in.specs.declared.taking.Progress.TheVariants.{Nothing, Opened, Under}
use Rattle.transfer_core.specs.Take.{is_soa, steps_through, ended, behind_first, take}
use Rattle.transfer_in.specs.ListState.{reading_of, AreHeld}

-- a record that can't be read, which no list has
abbrev pub unreadable : RawRecord
unreadable = record { owner = []; rtype = 0; class = 0; ttl = 0; octets = [] }

-- the records of a message; one that doesn't parse, is no reply or has an RCODE other than NOERROR counts as a record that can't be
-- read (own)
abbrev pub records_of_message : List ℕ → List RawRecord
records_of_message octets = unwrap_or (received_records octets) (unreadable ∷ [])

-- the records of messages in order
abbrev pub records_of_messages : List (List ℕ) → List RawRecord
records_of_messages messages = flat_map records_of_message messages

-- what the rest of a list makes of what was read
abbrev pub behind : List Record → Progress → List RawRecord → Result (List Record) TransferFault
behind zone Nothing list = take zone list
behind zone (Opened first) list = behind_first zone first list
behind zone (Under within) list =
    elim (steps_through (apex_of zone) within.first (reading_of within) list) [
      | Err fault ↦ Err fault
      | Ok reading ↦ ended (apex_of zone) reading.stage reading.records
    ]

-- what was read of a list is so held
abbrev pub IsKept : Name → Progress → Type 0
IsKept apex Nothing = Unit {0}
IsKept apex (Opened first) = (is_soa first ≡ true) × IsLawful first
IsKept apex (Under within) = AreHeld apex within.records

-- so many more records were read, and those after them make what all made
pub record IsRead (zone : List Record) (before after : Progress) (sent : List RawRecord) : Type 0 where
  pub reads : (list : List RawRecord) → behind zone before (sent ++ list) ≡ behind zone after list

-- or one of them has a fault, whatever comes after them
pub record IsRefused (zone : List Record) (before : Progress) (sent : List RawRecord) (fault : TransferFault) : Type 0 where
  pub refuses : (list : List RawRecord) → behind zone before (sent ++ list) ≡ Err fault

-- what is told of records: that they were read, that a growth was refused, or the fault of one of them
abbrev pub TellsRead : List Record → Progress → List RawRecord → Result Progress TransferFault → Type 0
TellsRead zone before sent reported = MatchResult reported (λ after. IsRead zone before after sent) (λ fault. (fault ≡ NoMemory) ⊎ IsRefused zone before sent fault)
