use Rattle.std.proofs.Common.{◌≡◌, true, rules}
use Rattle.std.proofs.lemmas.Result.{err_from_is_err_and}
use Rattle.dns_name.specs.Name.{is_under}
use Rattle.zone_tree.specs.Zone.{apex_of}
use Rattle.transfer_in.proofs.TakingLemmas.{begins, begins_out, begins_fault}
use Rattle.transfer_in.proofs.StepKeeps.{begin_keeps}
use Rattle.transfer_in.specs.ListState.{reading_of}
use Rattle.transfer_in.proofs.taking.read_second.Goals as goal

pub returns-in_err-one : goal.returns-in_err-one
returns-in_err-one c =
    let under : is_under c.args.first.owner (apex_of c.args.zone.now) ≡ true = search rules in
    let p = err_from_is_err_and c.from_residual.result c.from_residual.ensures.1 in
    rw (p.1, p.2) (record { reported = begins_out c.args.zone.now c.args.first c.args.sent.now under c.in_err-one.field-0.0 c.in_err-one.ensures.refused; kept = tt })

pub returns-in_err-reading : goal.returns-in_err-reading
returns-in_err-reading c =
    let under : is_under c.args.first.owner (apex_of c.args.zone.now) ≡ true = search rules in
    let p = err_from_is_err_and c.from_residual-in_err-reading.result c.from_residual-in_err-reading.ensures.1 in
    rw (p.1, p.2) (record { reported = begins_fault c.args.zone.now c.args.first c.args.sent.now under c.in_ok-one.one c.in_err-reading.field-0.0 c.in_ok-one.ensures.entered c.in_err-reading.ensures.reported; kept = tt })

pub returns : goal.returns
returns c =
    let under : is_under c.args.first.owner (apex_of c.args.zone.now) ≡ true = search rules in
    record {
      reported = begins c.args.zone.now c.args.first c.args.sent.now under c.in_ok-one.one c.in_ok-reading.reading c.in_ok-one.ensures.entered c.in_ok-reading.ensures.reported c.in_ok-reading.ensures.first;
      kept = begin_keeps c.args.zone.now c.soa-soa.ensures.lawful c.args.first c.requires.1 c.requires.0 under c.in_ok-one.one c.in_ok-one.ensures.lawful (reading_of c.in_ok-reading.reading) c.in_ok-reading.ensures.reported;
    }
