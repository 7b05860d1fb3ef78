use Rattle.commands.proofs.ApplyLemmas.{text_taken, text_begun, told_taken}
use Rattle.commands.proofs.RunLemmas.{AtDevice-each}
use Rattle.commands.proofs.apply.run_apply.Goals as goal

pub returns-in_err-write_text-clause-failed : goal.returns-in_err-write_text-clause-failed
returns-in_err-write_text-clause-failed g c =
    AtDevice-each _ _
    (text_begun (g.R.Read.remaining c.args.reader.now) c.args.zone.now c.in_ok-next.next (g.W.Write.contents c.args.writer.now) (g.W.Write.contents c.write_text.new.writer) c.in_ok-next.ensures.zone c.in_err-write_text.ensures)

pub returns-clause-ok : goal.returns-clause-ok
returns-clause-ok g c =
    text_taken (g.R.Read.remaining c.args.reader.now) c.args.zone.now c.in_ok-next.next (g.W.Write.contents c.args.writer.now) (g.W.Write.contents c.write_text.new.writer) c.in_ok-next.ensures.zone c.in_ok-write_text.ensures

pub returns-clause-reported : goal.returns-clause-reported
returns-clause-reported g c = told_taken (g.R.Read.remaining c.args.reader.now) c.args.zone.now c.in_ok-next.next c.in_ok-next.ensures.zone
