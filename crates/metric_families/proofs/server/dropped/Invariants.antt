use Rattle.std.proofs.Common.{◌≡◌, codes, drop}
use Rattle.metrics_text.specs.Families.{with_samples}
use Rattle.metric_families.specs.Known.{drops_known}
use Rattle.metric_families.specs.Families.{each_labelled}
use Rattle.metric_families.proofs.server.dropped.Given as goal

-- what is there, with what is left, is all
abbrev pub invariant-loop-each : goal.invariant-loop-each
invariant-loop-each l = with_samples l.family (each_labelled (codes "address") (λ d. d.address) (λ d. d.count) (drop l.each-index l.drops)) ≡ drops_known l.drops
