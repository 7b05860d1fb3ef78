use Rattle.std.proofs.Common.{◌≡◌, drop}
use Rattle.world_run.specs.World.{play}
use Rattle.world_run.proofs.PlayLemmas.{behind}
use Rattle.world_run.proofs.world.play_lines.Given as goal

-- the lines up to here are played
abbrev pub invariant-loop-line : goal.invariant-loop-line
invariant-loop-line l = play l.initial.play l.lines ≡ behind l.replies.items (play l.play (drop l.line-index l.lines))
