use Rattle.std.proofs.Common.{◌≡◌, ℕ, ◌+◌, List, Some, map}
use Rattle.commands.specs.Script.{said_by}
use Rattle.commands.proofs.ScriptLemmas.{IsOnTheWayThroughScript}
use Rattle.commands.proofs.script.read_script.Given as goal

-- the steps so far, and those of the lines that are left, are the whole script's
abbrev pub invariant-loop-read : goal.invariant-loop-read
invariant-loop-read g l = (input : List ℕ) → g.R.Read.remaining l.initial.reader ≡ Some input → IsOnTheWayThroughScript input (g.R.Read.remaining l.reader) (map said_by l.steps.items) (l.read + 1)
