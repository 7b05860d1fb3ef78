use Rattle.std.proofs.Common.{arith}
use Rattle.commands.proofs.LinesLemmas.{OnErr-each}
use Rattle.commands.proofs.ScriptLemmas.{printed_lines-first, IsWritten-line, Begins-part, line_printed}
use Rattle.commands.proofs.steps.write_replies.Goals as goal

pub returns-in_err-write_whole-clause-err : goal.returns-in_err-write_whole-clause-err
returns-in_err-write_whole-clause-err g c =
    let line = line_printed c.reply-item.result c.clear.new.self.items c.put_line.new.line.items c.as_slice.result.now c.clear.ensures.items c.in_ok-put_line.ensures c.as_slice.ensures.value in
    let first = printed_lines-first c.args.replies.now c.loop-reply.reply-index c.reply-item.result (omega arith) c.reply-item.is in
    OnErr-each _ _ (Begins-part _ (g.W.Write.contents c.loop-reply.writer) (g.W.Write.contents c.write_whole.new.writer) _ _ c.as_slice.result.now _ c.loop-reply.invariant (first line) c.in_err-write_whole.ensures)

pub loop-reply-preserved : goal.loop-reply-preserved
loop-reply-preserved g c =
    let line = line_printed c.reply-item.result c.clear.new.self.items c.put_line.new.line.items c.as_slice.result.now c.clear.ensures.items c.in_ok-put_line.ensures c.as_slice.ensures.value in
    let first = printed_lines-first c.args.replies.now c.loop-reply.reply-index c.reply-item.result (omega arith) c.reply-item.is in
    IsWritten-line _ (g.W.Write.contents c.loop-reply.writer) (g.W.Write.contents c.write_whole.new.writer) _ _ c.as_slice.result.now _ c.loop-reply.invariant (first line) c.in_ok-write_whole.ensures
