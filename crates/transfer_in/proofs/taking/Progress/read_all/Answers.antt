use Rattle.std.proofs.Common.{refl, ap, length, arith, Ok}
use Rattle.std.proofs.lemmas.Result.{err_from_is_err_and}
use Rattle.transfer_in.proofs.TakingLemmas.{IsRead-none, IsRead-at, IsRead-end, IsRefused-at}
use Rattle.transfer_in.proofs.taking.Progress.read_all.Goals as goal

pub loop-sent-init : goal.loop-sent-init
loop-sent-init c = record { read = IsRead-none _ _; kept = c.requires; still = λ e. refl }

pub loop-sent-preserved : goal.loop-sent-preserved
loop-sent-preserved c = record {
  read = IsRead-at c.args.zone.now c.args.self c.loop-sent.progress c.in_ok-progress.progress c.args.records.now c.loop-sent.sent-index c.sent-item.result c.loop-sent-test.true c.sent-item.is c.loop-sent.invariant.read c.in_ok-progress.ensures.reported;
  kept = c.in_ok-progress.ensures.kept;
  still = λ e. absurd (omega (arith, e, c.loop-sent-test.true));
}

pub returns-in_err-progress : goal.returns-in_err-progress
returns-in_err-progress c =
    let p = err_from_is_err_and c.from_residual.result c.from_residual.ensures.1 in
    rw (p.1, p.2) (record {
      reported = IsRefused-at c.args.zone.now c.args.self c.loop-sent.progress c.in_err-progress.field-0.0 c.args.records.now c.loop-sent.sent-index c.sent-item.result c.loop-sent-test.true c.sent-item.is c.loop-sent.invariant.read c.in_err-progress.ensures.reported;
      kept = tt;
      none = λ e. absurd (omega (arith, ap length e, c.loop-sent-test.true));
    })

pub returns : goal.returns
returns c = record {
  reported = IsRead-end c.args.zone.now c.args.self c.loop-sent.progress c.args.records.now c.loop-sent.sent-index c.loop-sent-test.false c.loop-sent.invariant.read;
  kept = c.loop-sent.invariant.kept;
  none = λ e. ap Ok (c.loop-sent.invariant.still (ap length e));
}
