use Rattle.std.proofs.Common.{arith}
use Rattle.commands.proofs.ScriptLemmas.{spaced_more, spaced_end}
use Rattle.commands.proofs.steps.put_behind.Goals as goal

pub loop-message-preserved : goal.loop-message-preserved
loop-message-preserved c =
    spaced_more c.args.messages.now c.loop-message.message-index c.message-item.result (omega arith) c.message-item.is c.loop-message.line.items c.put.new.line.items c.put_digits.new.line.items c.in_ok-put.ensures c.in_ok-put_digits.ensures _ c.loop-message.invariant

pub returns : goal.returns
returns c = spaced_end c.args.messages.now c.loop-message.message-index (omega arith) c.loop-message.line.items _ c.loop-message.invariant
