use Rattle.std.proofs.Common.{length}
use Rattle.commands.specs.Lines.{spaced_behind}
use Rattle.commands.proofs.LinesLemmas.{IsWritten}
use Rattle.commands.proofs.answer.write_behind.Given as goal

-- all messages are written but those that are left
abbrev pub invariant-loop-len : goal.invariant-loop-len
invariant-loop-len g l = IsWritten (g.W.Write.contents l.initial.writer) (g.W.Write.contents l.writer) (spaced_behind l.initial.messages) (spaced_behind l.messages)

abbrev pub decreases-loop-len : goal.decreases-loop-len
decreases-loop-len g l = length l.messages
