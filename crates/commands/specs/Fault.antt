-- Why a script cannot be played (own).
use Rattle.std.specs.Prelude.{◌≡◌, ℕ, List, Err, IsOk}
use Rattle.commands.specs.declared.script_fault.StepsFault.{StepsFault}
use Rattle.commands.specs.declared.script_fault.StepsFault.TheVariants.{Script, World, Device}
use Rattle.commands.specs.declared.script.ScriptFault.{ScriptFault}
use Rattle.commands.specs.declared.script.ScriptFault.TheVariants as script
use Rattle.commands.specs.Script.{script_of}
use Rattle.world_run.specs.declared.fault.WorldFault.TheVariants as world

-- why a script cannot be played, given why it cannot be read
abbrev pub fault_of : ScriptFault → StepsFault
fault_of (script.Bad line) = Script line
fault_of (script.Device fault) = Device fault

-- the script is refused, because of its text or while its steps are played
abbrev pub IsRefusal : StepsFault → Type 0
IsRefusal (Script line) = Unit
IsRefusal (World fault) = Unit
IsRefusal (Device fault) = ⊥

-- a fact that holds on an I/O error, or on lack of memory that is not a `World` fault
abbrev pub AtDevice : StepsFault → Type 0 → Type 0
AtDevice (Device fault) fact = fact
AtDevice fault fact = Unit

-- a fact that holds if a line begins a call while 64 are under way
abbrev pub AtLimit : StepsFault → Type 0 → Type 0
AtLimit (World world.Limit) fact = fact
AtLimit fault fact = Unit

-- a fault that steps can cause: lack of memory or the limit on calls while they are played, or an I/O error
abbrev pub IsOfPlay : StepsFault → Type 0
IsOfPlay (Script line) = ⊥
IsOfPlay (World fault) = Unit
IsOfPlay (Device fault) = Unit

-- a fault that a script can cause: its first line that is not a step, or, if all lines are steps, a fault while they are played; an I/O error is
-- always possible
abbrev pub IsOfScript : List ℕ → StepsFault → Type 0
IsOfScript input (Script line) = script_of input ≡ Err line
IsOfScript input (World fault) = IsOk (script_of input)
IsOfScript input (Device fault) = Unit
