use Rattle.std.proofs.Common.{◌≡◌, true, rules}
use Rattle.std.proofs.lemmas.Result.{err_from_is_err_and}
use Rattle.transfer_core.specs.Take.{is_soa}
use Rattle.transfer_in.proofs.TakingLemmas.{opens, opens_out}
use Rattle.transfer_in.proofs.taking.open.Goals as goal

pub returns-in_err-first : goal.returns-in_err-first
returns-in_err-first c =
    let p = err_from_is_err_and c.from_residual.result c.from_residual.ensures.1 in
    rw (p.1, p.2) (record { reported = opens_out c.args.zone.now c.args.sent.now c.in_err-first.field-0.0 c.in_err-first.ensures.refused; kept = tt })

pub returns : goal.returns
returns c =
    let soa : is_soa c.in_ok-first.first ≡ true = search rules in
    record { reported = opens c.args.zone.now c.args.sent.now c.in_ok-first.first c.in_ok-first.ensures.entered soa; kept = (soa, c.in_ok-first.ensures.lawful) }
