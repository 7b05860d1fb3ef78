use Rattle.std.proofs.Common.{◌≡◌, ◌≤◌, ℕ, List, Some}
use Rattle.commands.specs.Versions.{Past, Holds}
use Rattle.commands.proofs.AnswerLinesLemmas.{IsOnTheWay}
use Rattle.commands.proofs.answer.answer_lines.Given as goal

-- no more versions than lines; what was written and what the rest will give, behind the versions that it finds, are what the whole input
-- gives
abbrev pub invariant-loop-line : goal.invariant-loop-line
invariant-loop-line g l =
    (l.kept.newest.number ≤ l._line)
    × ((past : Past) → Holds past l.initial.kept → (input : List ℕ) → g.R.Read.remaining l.initial.reader ≡ Some input → IsOnTheWay l.transport past l.kept input (g.R.Read.remaining l.reader) (g.W.Write.contents l.initial.writer) (g.W.Write.contents l.writer))
