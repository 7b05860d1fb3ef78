use Rattle.std.proofs.Common.{subst}
use Rattle.std.proofs.lemmas.Result.{err_from_is_err_and}
use Rattle.zone_tree.specs.Zone.{apex_of}
use Rattle.transfer_in.proofs.TakingLemmas.{goes_out, goes_fault, goes_on}
use Rattle.transfer_in.proofs.StepKeeps.{step_keeps}
use Rattle.transfer_in.specs.ListState.{Within, HasSoa, reading_of}
use Rattle.transfer_in.proofs.taking.go_on.Goals as goal

pub returns-in_err-one : goal.returns-in_err-one
returns-in_err-one c =
    let p = err_from_is_err_and c.from_residual.result c.from_residual.ensures.1 in
    rw (p.1, p.2) (record { reported = goes_out c.args.zone.now c.args.reading c.args.sent.now c.in_err-one.field-0.0 c.in_err-one.ensures.refused; kept = tt })

pub returns-in_err-reading : goal.returns-in_err-reading
returns-in_err-reading c =
    let p = err_from_is_err_and c.from_residual-in_err-reading.result c.from_residual-in_err-reading.ensures.1 in
    rw (p.1, p.2) (record { reported = goes_fault c.args.zone.now c.args.reading c.args.sent.now c.in_ok-one.one c.in_err-reading.field-0.0 c.in_ok-one.ensures.entered (rw c.apex.ensures at c.in_err-reading.ensures.reported); kept = tt })

pub returns : goal.returns
returns c = record {
  reported = goes_on c.args.zone.now c.args.reading c.args.sent.now c.in_ok-one.one c.in_ok-reading.reading c.in_ok-one.ensures.entered (rw c.apex.ensures at c.in_ok-reading.ensures.reported) c.in_ok-reading.ensures.first;
  kept =
      step_keeps (apex_of c.args.zone.now) c.args.reading.records c.requires c.in_ok-one.one c.in_ok-one.ensures.lawful (reading_of c.in_ok-reading.reading) c.args.reading.first c.args.reading.stage
      (subst (λ (w : Within). HasSoa w.stage w.records) c.reading.view_is c.reading.invariant) (rw c.apex.ensures at c.in_ok-reading.ensures.reported);
}
