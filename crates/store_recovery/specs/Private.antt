-- Definitions that only private contracts cite.
use Rattle.std.specs.Prelude.{ℕ, Bool, ◌==◌, if◌then◌else◌}
use Rattle.journal.specs.declared.start.Refused.{Refused}
use Rattle.journal.specs.declared.start.Refused.TheVariants.{NoMemory as Starved}
use Rattle.master_file.specs.declared.fault.FileFault.{FileFault}
use Rattle.record_text.specs.declared.cause.Cause.{Cause}
use Rattle.record_text.specs.declared.cause.Cause.TheVariants.{NoMemory as Wanted}
use Rattle.store_recovery.specs.declared.fault.StartFault.{StartFault}
use Rattle.store_recovery.specs.declared.fault.StartFault.TheVariants.{Journal, Text, NoMemory}
use Rattle.store_recovery.specs.declared.start.Ending.{Ending}
use Rattle.store_recovery.specs.declared.start.Ending.TheVariants.{Clean, Blank, Torn}

-- a refusal of a journal as a fault of a start
abbrev pub of_journal : Refused → StartFault
of_journal Starved = NoMemory
of_journal why = Journal why

-- a fault of a text, by its cause
abbrev pub of_cause : FileFault → Cause → StartFault
of_cause why Wanted = NoMemory
of_cause why _ = Text why

abbrev pub of_text : FileFault → StartFault
of_text why = of_cause why why.cause

-- what is after so many octets of a journal of so many
abbrev pub ending_of : Bool → ℕ → ℕ → Ending
ending_of torn end len = if torn then Torn end else if end == len then Clean else Blank
