use Rattle.std.proofs.Common.{◌≡◌, ◌++◌, [], drop, sym, ap, ◌∙◌}
use Rattle.std.proofs.lemmas.List.{append-nil, drop_all}
use Rattle.http_page.specs.Graph.{points_text}
use Rattle.http_page.proofs.graph.put_points.Goals as goal

pub returns : goal.returns
returns c =
    let f = points_text c.loop-rate.x c.args.most in
    let left : f (drop c.loop-rate.rate-index c.args.rates.now) ≡ [] = ap f (drop_all c.loop-rate.rate-index c.args.rates.now c.loop-rate-test.false) in
    sym (ap (λ os. c.loop-rate.text.items ++ os) left ∙ append-nil c.loop-rate.text.items) ∙ c.loop-rate.invariant
