-- The outcome of a run of the program (own).
use Rattle.std.specs.Prelude.{◌≡◌, ◌↔◌, ℕ, ◌⊎◌, Bool, IsTrue, List, [], Option, None, IfSome, IfOk, Result, Ok, Err, IsOk}
use Rattle.std.specs.Io.KnownBytes.{Appends}
use Rattle.dns_rdata.specs.Record.{Record}
use Rattle.notify.specs.declared.large.Large.{Large}
use Rattle.notify.specs.Large.{IsFound, IsLarge}
use Rattle.zone_tree.specs.Sets.{sets_in}
use Rattle.zone_tree.specs.Zone.{apex_of}
use Rattle.master_file.specs.declared.fault.FileFault.{FileFault}
use Rattle.master_file.specs.ZoneText.{zone_of_text}
use Rattle.master_file.specs.WrittenZone.{zone_text}
use Rattle.master_file.specs.Fault.{no_memory}
use Rattle.commands.specs.declared.command.Source.{Source}
use Rattle.commands.specs.declared.command.Command.{Command}
use Rattle.commands.specs.declared.command.Command.TheVariants.{Answer, Check, Apply, Steps}
use Rattle.commands.specs.declared.fault.Fault.{Fault}
use Rattle.commands.specs.declared.fault.Fault.TheVariants.{Zone, Script, World, Transfer, Device}
use Rattle.commands.specs.declared.script_fault.StepsFault.{StepsFault}
use Rattle.commands.specs.declared.script_fault.StepsFault.TheVariants as script
use Rattle.commands.specs.Apply.{taken, taken_text, TellsTransfer}
use Rattle.commands.specs.Input.{zone_text_of, behind_zone_text}
use Rattle.serve_core.specs.Served.{Want}
use Rattle.commands.specs.Answers.{output_of}
use Rattle.commands.specs.Lines.{Begins}
use Rattle.commands.specs.Script.{script_of, script_output}
use Rattle.commands.specs.Report.{IsReported}

-- the status with which the program exits after a fault: 1 if the zone, the script or the transfer is refused, 3 on an I/O error or lack of memory
-- without a code
abbrev pub status_of : Fault → ℕ
status_of (Zone fault) = 1
status_of (Script line) = 1
status_of (World fault) = 1
status_of (Transfer fault) = 1
status_of (Device fault) = 3

-- a script's fault as a fault of the program
abbrev pub fault_of : StepsFault → Fault
fault_of (script.Script line) = Script line
fault_of (script.World fault) = World fault
fault_of (script.Device fault) = Device fault

-- a fact that holds if the zone's text is refused
abbrev pub AtRefusedZone : Fault → Type 0 → Type 0
AtRefusedZone (Zone fault) fact = fact
AtRefusedZone fault fact = Unit

-- a fact that holds on an I/O error, or on lack of memory without a code
abbrev pub AtDevice : Fault → Type 0 → Type 0
AtDevice (Device fault) fact = fact
AtDevice fault fact = Unit

-- a fault that a script can cause: its first line that is not a step, or, if all lines are steps, a fault while they are played; an I/O error is
-- always possible
abbrev pub IsOfScript : List ℕ → Fault → Type 0
IsOfScript input (Zone fault) = ⊥
IsOfScript input (Script line) = script_of input ≡ Err line
IsOfScript input (World fault) = IsOk (script_of input)
IsOfScript input (Transfer fault) = ⊥
IsOfScript input (Device fault) = Unit

-- a fault that a command's input can cause: requests are never refused, and printing a zone refuses nothing
abbrev pub IsOfInput : Command → List ℕ → Fault → Type 0
IsOfInput (Answer zone origin transport) input (Device fault) = Unit
IsOfInput (Answer zone origin transport) input fault = ⊥
IsOfInput (Check zone origin) input (Device fault) = Unit
IsOfInput (Check zone origin) input fault = ⊥
IsOfInput (Apply zone origin) input (Transfer fault) = Unit
IsOfInput (Apply zone origin) input (Device fault) = Unit
IsOfInput (Apply zone origin) input fault = ⊥
IsOfInput (Steps zone origin keep window) input fault = IsOfScript input fault

-- the source of a command's zone
abbrev pub source_of : Command → Source
source_of (Answer zone origin transport) = zone
source_of (Check zone origin) = zone
source_of (Apply zone origin) = zone
source_of (Steps zone origin keep window) = zone

-- the origin at the start of a command's zone's text
abbrev pub origin_of : Command → List (List ℕ)
origin_of (Answer zone origin transport) = origin
origin_of (Check zone origin) = origin
origin_of (Apply zone origin) = origin
origin_of (Steps zone origin keep window) = origin

-- what a command writes for an input and a zone, by where memory runs out at each request
abbrev pub output_for : Command → List Want → List Record → List ℕ → List ℕ
output_for (Answer zone origin transport) wants records input = output_of transport wants records input
output_for (Check zone origin) wants records input = zone_text records
output_for (Apply zone origin) wants records input = taken_text records input
output_for (Steps zone origin keep window) wants records input = script_output records keep window input

-- what a command writes for an input and a zone was written, wherever memory ran out for an update
abbrev pub DoesIn : Command → List Record → List ℕ → Option (List ℕ) → Option (List ℕ) → Type 0
DoesIn command records input before after = (wants : List Want) × Appends before after (output_for command wants records input)

-- a prefix of it was written
abbrev pub BeginsToDoIn : Command → List Record → List ℕ → Option (List ℕ) → Option (List ℕ) → Type 0
BeginsToDoIn command records input before after = (wants : List Want) × Begins before after (output_for command wants records input)

-- a command that applies a transfer reports its outcome
abbrev pub TellsIn : Command → List Record → List ℕ → Result (Unit {0}) Fault → Type 0
TellsIn (Apply zone origin) records input reported = TellsTransfer (taken records input) reported
TellsIn (Answer zone origin transport) records input reported = Unit
TellsIn (Check zone origin) records input reported = Unit
TellsIn (Steps zone origin keep window) records input reported = Unit

-- whether the apex of the zone that was read is the root, if the text is a zone (RFC 1034, 4.2)
abbrev pub TellsRoot : Result (List Record) FileFault → Bool → Type 0
TellsRoot (Ok zone) at_root = IsTrue at_root ↔ (apex_of zone ≡ [])
TellsRoot (Err fault) at_root = Unit

-- what a checked zone has more of than stock secondaries accept; nothing for any other command
abbrev pub TellsLarge : Command → Result (List Record) FileFault → Option Large → Type 0
TellsLarge (Check zone origin) (Ok records) large = IsFound (sets_in records) (IsLarge records) large
TellsLarge (Check zone origin) (Err fault) large = large ≡ None
TellsLarge (Answer zone origin transport) read large = large ≡ None
TellsLarge (Apply zone origin) read large = large ≡ None
TellsLarge (Steps zone origin keep window) read large = large ≡ None

-- the zone of a command's text, or the fault of the text (RFC 1035, 5)
abbrev pub zone_for : Command → List ℕ → Result (List Record) FileFault
zone_for command text = zone_of_text (origin_of command) text

-- the same, if the text is a zone, for the input after it
abbrev pub TellsOf : Command → List ℕ → List ℕ → Result (Unit {0}) Fault → Type 0
TellsOf command text input reported = IfOk (zone_for command text) (λ zone. TellsIn command zone input reported)

-- a zone-text fault is the text's own fault, or lack of memory; any other fault means that the text is a zone
abbrev pub IsOfZone : Result (List Record) FileFault → Fault → Type 0
IsOfZone read (Zone fault) = (fault ≡ no_memory) ⊎ (read ≡ Err fault)
IsOfZone read fault = IsOk read

-- a fault that a command can have: of the zone's text, or one that its input can cause
abbrev pub IsOfRun : Command → List ℕ → Fault → Type 0
IsOfRun command input (Zone fault) = Unit
IsOfRun command input fault = IsOfInput command input fault

-- a fault was written as a line and its status returned; or it could not be written, and the status is that of an I/O error
abbrev pub EndsBy : Fault → ℕ → Option (List ℕ) → Option (List ℕ) → Type 0
EndsBy fault status before after = ((status ≡ status_of fault) × IsReported fault before after) ⊎ (status ≡ 3)

-- a command was refused: a fault with status 1 was written as a line; it is the fault of the zone's text at the start of the input, or one that the
-- command's input after it can cause; for a transfer, it is the transfer's own fault or lack of memory
pub record IsRefused (command : Command) (read before after : Option (List ℕ)) : Type 0 where
  pub fault : Fault
  pub status : status_of fault ≡ 1
  pub reported : IsReported fault before after
  pub of_zone : IfSome read (λ octets. IsOfZone (zone_for command (zone_text_of octets)) fault)
  pub of_input : IfSome read (λ octets. IsOfRun command (behind_zone_text octets) fault)
  pub of_transfer : IfSome read (λ octets. TellsOf command (zone_text_of octets) (behind_zone_text octets) (Err fault))

-- a text is a zone, and what a command writes for an input and that zone was written
pub record Does (command : Command) (text input : List ℕ) (before after : Option (List ℕ)) : Type 0 where
  pub zone : List Record
  pub is_zone : zone_for command text ≡ Ok zone
  pub written : DoesIn command zone input before after

-- a text is a zone, and a prefix of what a command writes for an input and that zone was written
pub record BeginsToDo (command : Command) (text input : List ℕ) (before after : Option (List ℕ)) : Type 0 where
  pub zone : List Record
  pub is_zone : zone_for command text ≡ Ok zone
  pub written : BeginsToDoIn command zone input before after
