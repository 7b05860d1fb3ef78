use Rattle.std.proofs.Common.{◌≡◌, ◌++◌, drop}
use Rattle.http_page.specs.Graph.{points_text}
use Rattle.http_page.proofs.graph.put_points.Given as goal

-- what is written, with what is left, is all
abbrev pub invariant-loop-rate : goal.invariant-loop-rate
invariant-loop-rate l = l.text.items ++ points_text l.x l.most (drop l.rate-index l.rates) ≡ l.initial.text.items ++ points_text 0 l.most l.rates
