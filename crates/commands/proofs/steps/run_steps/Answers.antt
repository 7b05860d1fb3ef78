use Rattle.commands.proofs.ScriptLemmas.{AtLimit-each, past_limit, written_out, begun_out, IfErr-at_device}
use Rattle.commands.proofs.steps.run_steps.Goals as goal

pub returns-in-Err-clause-limit : goal.returns-in-Err-clause-limit
returns-in-Err-clause-limit g c =
    AtLimit-each c.in-Err.fault _ _ (past_limit (g.R.Read.remaining c.args.reader.now) c.args.zone c.args.options.keep c.args.options.window c.in_ok-script.script.items c.as_slice.result.now c.in_ok-script.ensures.ok c.as_slice.ensures.value) c.in-Err.ensures.limit

pub returns-in_err-write_replies-clause-failed : goal.returns-in_err-write_replies-clause-failed
returns-in_err-write_replies-clause-failed g c =
    IfErr-at_device _ _
    (begun_out (g.R.Read.remaining c.args.reader.now) c.args.zone c.args.options.keep c.args.options.window c.in_ok-script.script.items c.as_slice.result.now c.in-Ok.replies.items c.as_slice-2.result.now (g.W.Write.contents c.args.writer.now) (g.W.Write.contents c.write_replies.new.writer) c.in_ok-script.ensures.ok c.as_slice.ensures.value c.in-Ok.ensures.replies c.as_slice-2.ensures.value c.in_err-write_replies.ensures.err)

pub returns-clause-ok : goal.returns-clause-ok
returns-clause-ok g c =
    written_out (g.R.Read.remaining c.args.reader.now) c.args.zone c.args.options.keep c.args.options.window c.in_ok-script.script.items c.as_slice.result.now c.in-Ok.replies.items c.as_slice-2.result.now (g.W.Write.contents c.args.writer.now) (g.W.Write.contents c.write_replies.new.writer) c.in_ok-script.ensures.ok c.as_slice.ensures.value c.in-Ok.ensures.replies c.as_slice-2.ensures.value c.in_ok-write_replies.ensures.ok
