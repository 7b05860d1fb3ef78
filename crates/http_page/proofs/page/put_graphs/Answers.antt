use Rattle.std.proofs.Common.{◌≡◌, ◌++◌, [], flat_map, drop, sym, ap, ◌∙◌}
use Rattle.std.proofs.lemmas.List.{append-nil, drop_all}
use Rattle.http_page.specs.Graph.{graph_text}
use Rattle.http_page.proofs.page.put_graphs.Goals as goal

pub returns : goal.returns
returns c =
    let f = graph_text in
    let left : flat_map f (drop c.loop-graph.graph-index c.args.graphs.now) ≡ [] = ap (flat_map f) (drop_all c.loop-graph.graph-index c.args.graphs.now c.loop-graph-test.false) in
    sym (ap (λ os. c.loop-graph.text.items ++ os) left ∙ append-nil c.loop-graph.text.items) ∙ c.loop-graph.invariant
