use Rattle.std.proofs.Common.{drop}
use Rattle.commands.specs.Script.{printed_lines}
use Rattle.commands.proofs.LinesLemmas.{IsWritten}
use Rattle.commands.proofs.steps.write_replies.Given as goal

-- the lines so far are written
abbrev pub invariant-loop-reply : goal.invariant-loop-reply
invariant-loop-reply g l = IsWritten (g.W.Write.contents l.initial.writer) (g.W.Write.contents l.writer) (printed_lines l.replies) (printed_lines (drop l.reply-index l.replies))
