use Rattle.std.proofs.Common.{◌≡◌, ◌≤◌, ◌++◌, drop, length}
use Rattle.world_run.specs.Entries.{leaving}
use Rattle.world_run.proofs.entries.leaving.Given as goal

-- with those behind, all that leave
abbrev pub invariant-loop-at : goal.invariant-loop-at
invariant-loop-at l = (length l.owners ≤ l.at) × (l.owners ++ leaving l.window (drop l.at l.entries) l.serial.0 ≡ leaving l.window l.entries l.serial.0)
