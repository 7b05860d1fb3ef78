use Rattle.std.proofs.Common.{◌≡◌, drop, map}
use Rattle.metrics_text.specs.Families.{with_samples}
use Rattle.metric_families.specs.Counted.{queries, way_sample}
use Rattle.metric_families.proofs.counted.queries.Given as goal

-- what is there, with what is left, is all
abbrev pub invariant-loop-way : goal.invariant-loop-way
invariant-loop-way l = with_samples l.family (map (λ way. way_sample way.0 way.1 l.sum.numbers) (drop l.way-index l.way-items)) ≡ queries l.sum.numbers
