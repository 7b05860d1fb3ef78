use Rattle.std.proofs.Common.{◌≡◌, ◌++◌, [], flat_map, drop, sym, ap, ◌∙◌}
use Rattle.std.proofs.lemmas.List.{append-nil, drop_all}
use Rattle.http_page.specs.Page.{secondary_text}
use Rattle.http_page.proofs.page.put_secondaries.Goals as goal

pub returns : goal.returns
returns c =
    let f = secondary_text c.args.serial in
    let left : flat_map f (drop c.loop-secondary.secondary-index c.args.secondaries.now) ≡ [] = ap (flat_map f) (drop_all c.loop-secondary.secondary-index c.args.secondaries.now c.loop-secondary-test.false) in
    sym (ap (λ os. c.loop-secondary.text.items ++ os) left ∙ append-nil c.loop-secondary.text.items) ∙ c.loop-secondary.invariant
