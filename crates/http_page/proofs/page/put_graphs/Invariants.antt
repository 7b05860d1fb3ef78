use Rattle.std.proofs.Common.{◌≡◌, ◌++◌, flat_map, drop}
use Rattle.http_page.specs.Graph.{graph_text}
use Rattle.http_page.proofs.page.put_graphs.Given as goal

-- what is written, with what is left, is all
abbrev pub invariant-loop-graph : goal.invariant-loop-graph
invariant-loop-graph l = l.text.items ++ flat_map (graph_text) (drop l.graph-index l.graphs) ≡ l.initial.text.items ++ flat_map (graph_text) l.graphs
