use Rattle.std.proofs.lemmas.Result.{err_from_is_err_and}
use Rattle.zone_tree.specs.Zone.{apex_of}
use Rattle.transfer_core.specs.Take.{gathering}
use Rattle.transfer_in.proofs.BeginLemmas.{begins_full, begins_full_fault}
use Rattle.transfer_in.proofs.reading.begin_full.Goals as goal

pub returns-in_err-records-clause-reported : goal.returns-in_err-records-clause-reported
returns-in_err-records-clause-reported c =
    let p = err_from_is_err_and c.from_residual-in_err-records.result c.from_residual-in_err-records.ensures.1 in
    rw (p.1, p.2)
    (begins_full_fault (apex_of c.args.zone.now) c.args.first.now c.args.one c.args.zone.now c.in_ok-alone.alone c.in_err-records.field-0.0 c.requires c.in_ok-alone.ensures
    (rw c.apex.ensures at (c.in_err-records.ensures gathering)))

pub returns-clause-reported : goal.returns-clause-reported
returns-clause-reported c =
    begins_full (apex_of c.args.zone.now) c.args.first.now c.args.one c.args.zone.now c.in_ok-alone.alone _ c.requires c.in_ok-alone.ensures
    (rw c.apex.ensures at (c.in_ok-records.ensures gathering))
