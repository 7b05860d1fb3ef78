use Rattle.std.proofs.Common.{◌≡◌, map, take}
use Rattle.commands.specs.Script.{said_by}
use Rattle.commands.proofs.steps.world_steps.Given as goal

-- the steps so far
abbrev pub invariant-loop-step : goal.invariant-loop-step
invariant-loop-step l = l.steps.items ≡ map said_by (take l.step-index l.script)
