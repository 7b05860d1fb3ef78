-- Lemmas on what a command writes.
use Rattle.std.proofs.Common.{ℕ, List, Option, Some, None, IfSome, Result, Ok, Err, IfErr}
use Rattle.std.specs.Io.KnownBytes.{Keeps}
use Rattle.dns_rdata.specs.Record.{Record}
use Rattle.commands.specs.declared.command.Command.{Command}
use Rattle.commands.specs.declared.fault.Fault.{Fault}
use Rattle.commands.specs.declared.fault.Fault.TheVariants.{Zone, Script, World, Transfer, Device}
use Rattle.commands.specs.Run.{AtDevice, DoesIn, BeginsToDoIn}
use Rattle.commands.proofs.LinesLemmas.{Appends-kept, Begins-whole}

-- a fact at each fault of a device
pub AtDevice-each : {T : Type 0} (r : Result T Fault) (P : Type 0) → P → IfErr r (λ fault. AtDevice fault P)
AtDevice-each (Ok x) P fact = tt
AtDevice-each (Err (Zone fault)) P fact = tt
AtDevice-each (Err (Script line)) P fact = tt
AtDevice-each (Err (World fault)) P fact = tt
AtDevice-each (Err (Transfer fault)) P fact = tt
AtDevice-each (Err (Device fault)) P fact = fact

-- what was written whole, and is kept, is a beginning
pub BeginsToDoIn-whole : (command : Command) (zone : List Record) (left before between after : Option (List ℕ)) → Keeps between after → IfSome left (λ input. DoesIn command zone input before between)
    → IfSome left (λ input. BeginsToDoIn command zone input before after)
BeginsToDoIn-whole command zone None before between after kept does = tt
BeginsToDoIn-whole command zone (Some input) before between after kept does = (does.0, Begins-whole before after _ (Appends-kept before between after _ does.1 kept))
