-- The fault that is told where a growth was refused, and what is printed of a fault.
use Rattle.std.specs.Prelude.{ℕ, List, ◌++◌, codes, decimal}
use Rattle.record_text.specs.Fault.{printed}
use Rattle.record_text.specs.declared.cause.Cause.TheVariants.{NoMemory}
use Rattle.master_file.specs.declared.fault.FileFault.{FileFault}

-- want of memory, which is told on no line (own)
abbrev pub no_memory : FileFault
no_memory = record { line = 0; cause = NoMemory }

-- what is printed of a fault: its line, its code and its name (own)
abbrev pub printed_at : FileFault → List ℕ
printed_at fault = codes "line " ++ decimal fault.line ++ codes ": " ++ printed fault.cause
