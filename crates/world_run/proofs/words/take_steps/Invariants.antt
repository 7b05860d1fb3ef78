use Rattle.std.proofs.Common.{◌≡◌, ◌-◌}
use Rattle.world_run.specs.World.{steps_up_to, most_steps}
use Rattle.world_run.proofs.words.take_steps.Given as goal

-- what the call comes to is what it comes to from here, with the steps that are left
abbrev pub invariant-loop : goal.invariant-loop
invariant-loop l = steps_up_to most_steps l.initial.machine l.initial.phase ≡ steps_up_to (most_steps - l.counter) l.machine l.phase
