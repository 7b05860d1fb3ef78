use Rattle.std.proofs.Common.{◌-◌, ◌∙◌, length, sym, arith}
use Rattle.update_batches.proofs.BatchLemmas.{newest_in, newest_none}
use Rattle.update_batches.proofs.judged.newest_of.Goals as goal

pub returns-in-Some : goal.returns-in-Some
returns-in-Some c =
    let updates = c.args.updates.now in
    let item = (c.in-Some.ensures).item in
    c.version.ensures ∙ sym (newest_in c.args.first.now updates c.in-Some.update.now c.in-Some.update.now (length updates - 1) (omega (arith, item.3.0)) (item.3.1 c.in-Some.update.now))

pub returns-in-None : goal.returns-in-None
returns-in-None c = sym (newest_none c.args.first.now c.args.updates.now (c.in-None.ensures).item.3)
