use Rattle.std.proofs.Common.{◌≡◌, ◌++◌, [], drop, sym, ap, ◌∙◌}
use Rattle.std.proofs.lemmas.List.{append-nil, drop_all}
use Rattle.metrics_text.specs.Histograms.{bucket_samples, counted}
use Rattle.metrics_text.proofs.histogram.put_buckets.Goals as goal

pub returns-clause-samples : goal.returns-clause-samples
returns-clause-samples c =
    let left : bucket_samples c.loop-each.below (drop c.loop-each.each-index c.args.buckets.now) ≡ [] = ap (bucket_samples c.loop-each.below) (drop_all c.loop-each.each-index c.args.buckets.now c.loop-each-test.false) in
    sym (ap (λ ss. c.loop-each.samples.items ++ ss) left ∙ append-nil c.loop-each.samples.items) ∙ c.loop-each.invariant.written

pub returns-clause-counted : goal.returns-clause-counted
returns-clause-counted c = sym (ap (counted c.loop-each.below) (drop_all c.loop-each.each-index c.args.buckets.now c.loop-each-test.false)) ∙ c.loop-each.invariant.all
