use Rattle.std.proofs.Common.{◌≡◌, ℕ, List, Some}
use Rattle.commands.proofs.ApplyLemmas.{octets_of, IsOnTheWayThroughMessages}
use Rattle.commands.proofs.apply.read_messages.Given as goal

-- the messages so far, and those of the lines that are left, are the whole input's
abbrev pub invariant-loop-read : goal.invariant-loop-read
invariant-loop-read g l = (input : List ℕ) → g.R.Read.remaining l.initial.reader ≡ Some input → IsOnTheWayThroughMessages input (g.R.Read.remaining l.reader) (octets_of l.messages.items)
