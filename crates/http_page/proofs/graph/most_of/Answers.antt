use Rattle.std.proofs.Common.{sym, ap, ◌∙◌}
use Rattle.std.proofs.lemmas.List.{drop_all}
use Rattle.http_page.specs.Graph.{most_of}
use Rattle.http_page.proofs.graph.most_of.Goals as goal

pub returns : goal.returns
returns c = sym (ap (most_of c.loop-rate.most) (drop_all c.loop-rate.rate-index c.args.rates.now c.loop-rate-test.false)) ∙ c.loop-rate.invariant
