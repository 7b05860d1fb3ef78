use Rattle.commands.proofs.RunLemmas.{AtDevice-each, BeginsToDoIn-whole}
use Rattle.commands.proofs.run.run_over.Goals as goal

pub returns-in_err-flush-clause-failed : goal.returns-in_err-flush-clause-failed
returns-in_err-flush-clause-failed g c =
    AtDevice-each _ _ (BeginsToDoIn-whole c.args.command.now c.args.zone (g.R.Read.remaining c.args.reader.now) _ _ _ c.flush.ensures.bytes c.in_ok-do_command.ensures.ok)
