use Rattle.std.proofs.Common.{◌≡◌, ◌++◌, [], flat_map, drop, sym, ap, ◌∙◌}
use Rattle.std.proofs.lemmas.List.{append-nil, drop_all}
use Rattle.metrics_text.specs.Exposition.{family_text}
use Rattle.metrics_text.proofs.write.write_metrics.Goals as goal

pub returns : goal.returns
returns c =
    let f = family_text in
    let left : flat_map f (drop c.loop-family.family-index c.args.families.now) ≡ [] = ap (flat_map f) (drop_all c.loop-family.family-index c.args.families.now c.loop-family-test.false) in
    sym (ap (λ os. c.loop-family.text.items ++ os) left ∙ append-nil c.loop-family.text.items) ∙ c.loop-family.invariant
