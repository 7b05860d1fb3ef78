use Rattle.std.proofs.Common.{Ok}
use Rattle.std.proofs.lemmas.Result.{err_from_is_err_and}
use Rattle.commands.proofs.ApplyLemmas.{taken_is, taken_fault}
use Rattle.commands.proofs.apply.next_zone.Goals as goal

pub returns-in_err-next-clause-fault : goal.returns-in_err-next-clause-fault
returns-in_err-next-clause-fault g c =
    let p = err_from_is_err_and c.from_residual-in_err-next.result c.from_residual-in_err-next.ensures.1 in
    rw (p.1, p.2) (taken_fault (g.R.Read.remaining c.args.reader.now) c.args.zone.now c.in_ok-messages.messages.items c.as_slice.result.now c.in_err-next.field-0.0 c.as_slice.ensures.value c.in_ok-messages.ensures c.in_err-next.ensures.fault)

pub returns-clause-zone : goal.returns-clause-zone
returns-clause-zone g c =
    taken_is (g.R.Read.remaining c.args.reader.now) c.args.zone.now c.in_ok-messages.messages.items c.as_slice.result.now (Ok c.in_ok-next.next) c.as_slice.ensures.value c.in_ok-messages.ensures c.in_ok-next.ensures.zone
