use Rattle.std.proofs.Common.{length, refl, ◌∙◌, arith}
use Rattle.journal.proofs.SummedLemmas.{summed_parts, summed_shows, summed_leads, summed_from, sum_of_summed}
use Rattle.journal.proofs.PartLemmas.{split_again, not_so}
use Rattle.journal.proofs.frame.summed_among.Goals as goal
use Rattle.journal.proofs.frame.summed_among.Goals.{then-number-low-via-then-number-low, then-number-low-via-else-number-low+then-high-number}

pub returns-in_err-size-clause-found : goal.returns-in_err-size-clause-found
returns-in_err-size-clause-found c = rw c.from_residual.ensures (λ number low high body rest frame.
    c.in_err-size.ensures (length body) _ frame.short (frame.spelt ∙ summed_parts c.args.salt.now number body rest))

pub returns-in_err-number-clause-found : goal.returns-in_err-number-clause-found
returns-in_err-number-clause-found c = rw c.from_residual-in_err-number.ensures (λ number low high body rest frame.
    let shows = summed_shows c.args.salt.now number c.args.octets.now body rest frame in omega (arith, shows.long, c.in_ok-size.ensures.1, c.in_err-number.ensures))

pub returns-then-number-low-clause-found : goal.returns-then-number-low-clause-found
returns-then-number-low-clause-found c = λ number low high body rest frame.
    let leads = summed_leads c.args.salt.now c.args.octets.now c.in_ok-size.size c.in_ok-number.number c.in_ok-size.behind_size.now c.in_ok-number.behind_number.now
    c.in_ok-size.ensures.2 c.in_ok-number.ensures.2 c.in_ok-size.ensures.0 c.in_ok-number.ensures.0 number body rest frame in
    elim c.then-number-low.branch [
      | then-number-low-via-then-number-low w ↦ omega (arith, leads.is_number, low, w.if-number-low.true)
      | then-number-low-via-else-number-low+then-high-number w ↦ omega (arith, leads.is_number, high, w.if-high-number.true)
    ]

pub returns-in_err-body-clause-found : goal.returns-in_err-body-clause-found
returns-in_err-body-clause-found c = rw c.from_residual-in_err-body.ensures (λ number low high body rest frame.
    let leads = summed_leads c.args.salt.now c.args.octets.now c.in_ok-size.size c.in_ok-number.number c.in_ok-size.behind_size.now c.in_ok-number.behind_number.now
    c.in_ok-size.ensures.2 c.in_ok-number.ensures.2 c.in_ok-size.ensures.0 c.in_ok-number.ensures.0 number body rest frame in
    omega (arith, leads.is_size, leads.long, c.in_err-body.ensures.cases))

pub returns-in_err-sum-clause-found : goal.returns-in_err-sum-clause-found
returns-in_err-sum-clause-found c = rw c.from_residual-in_err-sum.ensures (λ number low high body rest frame.
    let leads = summed_leads c.args.salt.now c.args.octets.now c.in_ok-size.size c.in_ok-number.number c.in_ok-size.behind_size.now c.in_ok-number.behind_number.now
    c.in_ok-size.ensures.2 c.in_ok-number.ensures.2 c.in_ok-size.ensures.0 c.in_ok-number.ensures.0 number body rest frame in
    omega (arith, leads.is_size, leads.long, c.in_ok-body.ensures.cases.4, c.in_err-sum.ensures))

pub returns-then-not-is_sum_of-clause-found : goal.returns-then-not-is_sum_of-clause-found
returns-then-not-is_sum_of-clause-found c = λ number low high body rest frame.
    not_so (c.if-not-is_sum_of.ensures.same.1 (sum_of_summed c.args.salt.now c.args.octets.now c.in_ok-size.size c.in_ok-number.number c.in_ok-size.behind_size.now c.in_ok-number.behind_number.now
    c.in_ok-body.body.now c.in_ok-body.behind_body.now c.in_ok-sum.sum.now c.in_ok-sum.rest.now c.in_ok-size.ensures.2 c.in_ok-number.ensures.2
    c.in_ok-size.ensures.0 c.in_ok-number.ensures.0 (split_again c.in_ok-number.behind_number.now c.in_ok-size.size c.in_ok-body.body.now c.in_ok-body.behind_body.now c.in_ok-body.ensures.cases) c.in_ok-sum.ensures.0 c.in_ok-body.ensures.cases.3 c.in_ok-sum.ensures.1
    number body rest frame))

pub returns-clause-found : goal.returns-clause-found
returns-clause-found c = (
  c.if-number-low.false,
  c.if-high-number.false,
  summed_from c.args.salt.now c.args.octets.now c.in_ok-size.size c.in_ok-number.number c.in_ok-size.behind_size.now c.in_ok-number.behind_number.now
      c.in_ok-body.body.now c.in_ok-body.behind_body.now c.in_ok-sum.sum.now c.in_ok-sum.rest.now c.in_ok-size.ensures.2 c.in_ok-number.ensures.2
      c.in_ok-size.ensures.0 c.in_ok-number.ensures.0 (split_again c.in_ok-number.behind_number.now c.in_ok-size.size c.in_ok-body.body.now c.in_ok-body.behind_body.now c.in_ok-body.ensures.cases) c.in_ok-sum.ensures.0 c.in_ok-body.ensures.cases.3
      (c.if-not-is_sum_of.ensures.same.0 refl),
)
