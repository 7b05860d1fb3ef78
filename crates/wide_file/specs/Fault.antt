-- Faults of zone files.
use Rattle.std.specs.Prelude.{ℕ, List, []}
use Rattle.master_file.specs.declared.fault.FileFault.{FileFault}
use Rattle.record_text.specs.declared.cause.Cause.TheVariants.{NoMemory}
use Rattle.wide_file.specs.declared.wide_fault.WideCause.TheVariants as wide
use Rattle.wide_file.specs.declared.wide_fault.WideFault.{WideFault}

-- want of memory, on no line of the zone file
abbrev pub no_memory : WideFault
no_memory = record { file = []; line = 0; cause = wide.Text NoMemory }

-- a fault of a text, in this file
abbrev pub at_file : List ℕ → FileFault → WideFault
at_file file fault = record { file = file; line = fault.line; cause = wide.Text fault.cause }

-- a file can't be included, in this file on this line
abbrev pub not_included : List ℕ → ℕ → WideFault
not_included file line = record { file = file; line = line; cause = wide.Include }
