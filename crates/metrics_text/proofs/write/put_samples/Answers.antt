use Rattle.std.proofs.Common.{◌≡◌, ◌++◌, [], flat_map, drop, sym, ap, ◌∙◌}
use Rattle.std.proofs.lemmas.List.{append-nil, drop_all}
use Rattle.metrics_text.specs.Exposition.{sample_line}
use Rattle.metrics_text.proofs.write.put_samples.Goals as goal

pub returns : goal.returns
returns c =
    let f = sample_line c.args.name.now in
    let left : flat_map f (drop c.loop-sample.sample-index c.args.samples.now) ≡ [] = ap (flat_map f) (drop_all c.loop-sample.sample-index c.args.samples.now c.loop-sample-test.false) in
    sym (ap (λ os. c.loop-sample.text.items ++ os) left ∙ append-nil c.loop-sample.text.items) ∙ c.loop-sample.invariant
