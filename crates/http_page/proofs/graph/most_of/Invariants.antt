use Rattle.std.proofs.Common.{◌≡◌, drop}
use Rattle.http_page.specs.Graph.{most_of}
use Rattle.http_page.proofs.graph.most_of.Given as goal

-- the highest of what was seen and what is left is that of all
abbrev pub invariant-loop-rate : goal.invariant-loop-rate
invariant-loop-rate l = most_of l.most (drop l.rate-index l.rates) ≡ most_of 0 l.rates
