use Rattle.std.proofs.lemmas.Result.{err_from_is_err_and}
use Rattle.wide_text.proofs.ParamLemmas.{list_told}
use Rattle.wide_text.proofs.params.list_of.Goals as goal

pub returns-in_err-escaped-clause-fault : goal.returns-in_err-escaped-clause-fault
returns-in_err-escaped-clause-fault c =
    let p = err_from_is_err_and c.from_residual.result c.from_residual.ensures.1 in
    rw (p.1, p.2)
    (list_told c.args.kind c.loop-octet.escaped c.loop-octet.list.items c.loop-octet.own.items c.args.octets.now c.loop-octet.octet-index c.in_err-escaped.field-0.0 c.loop-octet-test.true c.loop-octet.invariant c.in_err-escaped.ensures.fault)
