-- A transfer's messages as lines of hexadecimal, and the zone that results from them (own).
use Rattle.std.specs.Prelude.{◌≡◌, ◌⊎◌, ℕ, List, [], length, map, nat_le, if◌then◌else◌, Result, Ok, Err, IsOk}
use Rattle.hex.specs.declared.error.FromHexError.{FromHexError}
use Rattle.hex.specs.Hex.{decode_of}
use Rattle.dns_rdata.specs.Record.{Record}
use Rattle.master_file.specs.WrittenZone.{zone_text}
use Rattle.transfer_core.specs.declared.fault.TransferFault.{TransferFault}
use Rattle.transfer_core.specs.declared.fault.TransferFault.TheVariants as transfer
use Rattle.transfer_core.specs.Take.{take}
use Rattle.transfer_in.specs.Taking.{records_of_messages}
use Rattle.commands.specs.declared.fault.Fault.{Fault}
use Rattle.commands.specs.declared.fault.Fault.TheVariants.{Zone, Script, World, Transfer, Device}
use Rattle.commands.specs.Lines.{MOST_OCTETS, input_lines}

-- the message on a line: empty, and so unreadable, if the line is not hexadecimal or has more octets than a message may have
abbrev pub message_in : Result (List ℕ) FromHexError → List ℕ
message_in (Ok octets) = if nat_le (length octets) MOST_OCTETS then octets else []
message_in (Err fault) = []

abbrev pub message_on : List ℕ → List ℕ
message_on line = message_in (decode_of line)

-- the messages of an input, one per line
unfoldable pub messages_on : List ℕ → List (List ℕ)
messages_on input = map message_on (input_lines input)

-- the zone that results from applying them to a zone, or the fault of the first record that has one (RFC 1995, 4; RFC 5936, 2.2)
unfoldable pub taken : List Record → List ℕ → Result (List Record) TransferFault
taken records input = take records (records_of_messages (messages_on input))

-- its text; empty if the transfer is refused
abbrev pub text_of : Result (List Record) TransferFault → List ℕ
text_of (Ok next) = zone_text next
text_of (Err fault) = []

abbrev pub taken_text : List Record → List ℕ → List ℕ
taken_text records input = text_of (taken records input)

-- a transfer fault is the transfer's own fault, or lack of memory; an I/O error or a refused zone text is also possible
abbrev pub IsOfTransfer : Result (List Record) TransferFault → Fault → Type 0
IsOfTransfer outcome (Transfer fault) = (fault ≡ transfer.NoMemory) ⊎ (outcome ≡ Err fault)
IsOfTransfer outcome (Device fault) = Unit
IsOfTransfer outcome (Zone fault) = Unit
IsOfTransfer outcome (Script line) = ⊥
IsOfTransfer outcome (World fault) = ⊥

-- what is reported of a transfer: success only if it is applied, and else a fault as above
abbrev pub TellsTransfer : Result (List Record) TransferFault → Result (Unit {0}) Fault → Type 0
TellsTransfer outcome (Ok done) = IsOk outcome
TellsTransfer outcome (Err fault) = IsOfTransfer outcome fault
