use Rattle.std.proofs.Common.{ℕ, List, codes, ap, ◌∙◌}
use Rattle.metrics_text.specs.Families.{with_samples}
use Rattle.metrics_text.specs.Samples.{SampleOf}
use Rattle.metric_families.specs.Known.{notify_sample, notify_samples}
use Rattle.metric_families.proofs.EachLemmas.{three}
use Rattle.metric_families.proofs.server.put_notifies.Goals as goal

pub returns : goal.returns
returns c =
    let i = c.facts.inside in
    let address : List ℕ = c.as_str.result.now in
    three c.args.family.now c.put_of_two.new.family c.put_of_two-2.new.family c.put_of_two-3.new.family
    (notify_sample address (codes "sent") i.sent) (notify_sample address (codes "answered") i.answered) (notify_sample address (codes "given_up") i.given_up)
    c.in_ok-put_of_two.ensures c.in_ok-put_of_two-2.ensures c.in_ok-put_of_two-3.ensures
    ∙ ap (λ (ss : List SampleOf). with_samples c.args.family.now ss)
    (ap (λ (a : List ℕ). notify_samples (record { address = a; sent = i.sent; answered = i.answered; given_up = i.given_up; serial = i.serial })) c.as_str.ensures.value ∙ ap notify_samples c.facts.view_is)
