use Rattle.std.proofs.Common.{◌≡◌, ◌++◌, [], flat_map, drop, sym, ap, ◌∙◌}
use Rattle.std.proofs.lemmas.List.{append-nil, drop_all}
use Rattle.metrics_text.specs.Exposition.{help_octet}
use Rattle.metrics_text.proofs.write.put_help.Goals as goal

pub returns : goal.returns
returns c =
    let f = help_octet in
    let left : flat_map f (drop c.loop-octet.octet-index c.args.octets.now) ≡ [] = ap (flat_map f) (drop_all c.loop-octet.octet-index c.args.octets.now c.loop-octet-test.false) in
    sym (ap (λ os. c.loop-octet.text.items ++ os) left ∙ append-nil c.loop-octet.text.items) ∙ c.loop-octet.invariant
