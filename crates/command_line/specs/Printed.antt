-- The zone that is printed for a store (own).
use Rattle.std.specs.Prelude.{ℕ, List, Option, ⊤}
use Rattle.std.specs.Io.KnownBytes.{Appends}
use Rattle.master_file.specs.WrittenZone.{zone_text}
use Rattle.store_recovery.specs.declared.start.Recovery.{Recovery}
use Rattle.store_recovery.specs.Before.{IsStartedBefore, IsBeforeFault}
use Rattle.store_recovery.specs.Start.{IsStarted, IsStartFault}
use Rattle.command_line.specs.declared.stored_zone.Part.{Part}
use Rattle.command_line.specs.declared.stored_zone.Part.TheVariants.{Whole, BeforeFault}
use Rattle.command_line.specs.declared.stored_zone.PrintFault.{PrintFault}
use Rattle.command_line.specs.declared.stored_zone.PrintFault.TheVariants.{NoStart, Device}

-- what a start recovers from all of a journal, or from the part before damage
abbrev pub IsPart : Part → List ℕ → List ℕ → Recovery → Type 0
IsPart Whole text octets start = IsStarted text octets start
IsPart BeforeFault text octets start = IsStartedBefore text octets start

-- the zone that such a start serves is printed, in its canonical form
abbrev pub Prints : Part → List ℕ → List ℕ → Option (List ℕ) → Option (List ℕ) → Type 0
Prints part text octets before after = (start : Recovery) × IsPart part text octets start × Appends before after (zone_text start.newest.last.zone)

-- why no zone is printed: a fault of the start; nothing is claimed of a `Device` fault
abbrev pub IsPrintFault : Part → List ℕ → List ℕ → PrintFault → Type 0
IsPrintFault Whole text octets (NoStart fault) = IsStartFault text octets fault
IsPrintFault BeforeFault text octets (NoStart fault) = IsBeforeFault text octets fault
IsPrintFault part text octets (Device fault) = ⊤
