-- How the program reports a fault, in a line (own).
use Rattle.std.specs.Prelude.{ℕ, List, ◌∷◌, ◌++◌, codes, decimal, Option, Some, None, IfSome}
use Rattle.std.specs.Io.KnownBytes.{Appends}
use Rattle.commands.specs.declared.fault.Fault.{Fault}
use Rattle.commands.specs.declared.fault.Fault.TheVariants.{Zone, Script, World, Transfer, Device}
use Rattle.master_file.specs.Fault.{printed_at}
use Rattle.transfer_core.specs.Words.{fault_words}
use Rattle.world_run.specs.Words.{world_words}

-- how a fault is worded: `line N: CODE NAME` for a zone's text, `line N: bad` for a script, `CODE NAME` for steps or a transfer; none if the I/O
-- error words it
abbrev pub fault_line : Fault → Option (List ℕ)
fault_line (Zone fault) = Some (printed_at fault)
fault_line (Script line) = Some (codes "line " ++ decimal line ++ codes ": bad")
fault_line (World fault) = Some (world_words fault)
fault_line (Transfer fault) = Some (fault_words fault)
fault_line (Device fault) = None

-- a line was written, and possibly more after it
pub record AppendsLine (before after : Option (List ℕ)) (line : List ℕ) : Type 0 where
  pub below : List ℕ
  pub written : Appends before after (line ++ 10 ∷ below)

-- something was written
abbrev pub AppendsSome : Option (List ℕ) → Option (List ℕ) → Type 0
AppendsSome before after = (octets : List ℕ) × Appends before after octets

-- a fault was written as a line; what follows it is left open
abbrev pub IsReported : Fault → Option (List ℕ) → Option (List ℕ) → Type 0
IsReported fault before after = IfSome (fault_line fault) (AppendsLine before after)
