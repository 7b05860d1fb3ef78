use Rattle.std.proofs.Common.{◌≡◌, ◌++◌, drop}
use Rattle.commands.specs.Lines.{spaced_behind}
use Rattle.commands.proofs.steps.put_behind.Given as goal

-- the messages so far are added
abbrev pub invariant-loop-message : goal.invariant-loop-message
invariant-loop-message l = l.line.items ++ spaced_behind (drop l.message-index l.messages) ≡ l.initial.line.items ++ spaced_behind l.messages
