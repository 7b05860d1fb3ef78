use Rattle.std.proofs.Common.{◌≡◌, ◌++◌, [], flat_map, drop, sym, ap, ◌∙◌}
use Rattle.std.proofs.lemmas.List.{append-nil, drop_all}
use Rattle.metrics_text.specs.Exposition.{after_comma}
use Rattle.metrics_text.proofs.write.put_more_labels.Goals as goal

pub returns : goal.returns
returns c =
    let f = after_comma in
    let left : flat_map f (drop c.loop-label.label-index c.args.labels.now) ≡ [] = ap (flat_map f) (drop_all c.loop-label.label-index c.args.labels.now c.loop-label-test.false) in
    sym (ap (λ os. c.loop-label.text.items ++ os) left ∙ append-nil c.loop-label.text.items) ∙ c.loop-label.invariant
