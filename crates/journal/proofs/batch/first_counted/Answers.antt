use Rattle.std.proofs.Common.{length, ap, length-append, arith}
use Rattle.journal.proofs.PartLemmas.{split_again}
use Rattle.journal.proofs.BatchLemmas.{none_in_two, counted_leads, counted_from}
use Rattle.journal.proofs.batch.first_counted.Goals as goal

pub returns-in_err-len : goal.returns-in_err-len
returns-in_err-len c = rw c.from_residual.ensures (λ first rest short e. none_in_two c.args.octets.now first rest c.in_err-len.ensures e)

pub returns-in_err-first : goal.returns-in_err-first
returns-in_err-first c = rw c.from_residual-in_err-first.ensures (λ first rest short e.
    let leads = counted_leads c.args.octets.now c.in_ok-len.len c.in_ok-len.rest.now first rest c.in_ok-len.ensures.2 c.in_ok-len.ensures.0 short e in
    omega (arith, leads.0, ap length leads.1, length-append first rest, c.in_err-first.ensures.cases))

pub returns : goal.returns
returns c = counted_from c.args.octets.now c.in_ok-len.len c.in_ok-len.rest.now c.in_ok-first.first.now c.in_ok-first.behind.now c.in_ok-len.ensures.2 c.in_ok-len.ensures.0
    (split_again c.in_ok-len.rest.now c.in_ok-len.len c.in_ok-first.first.now c.in_ok-first.behind.now c.in_ok-first.ensures.cases) c.in_ok-first.ensures.cases.3
