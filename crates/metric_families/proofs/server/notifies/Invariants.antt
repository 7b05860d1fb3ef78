use Rattle.std.proofs.Common.{◌≡◌, drop, flat_map}
use Rattle.metrics_text.specs.Families.{with_samples}
use Rattle.metric_families.specs.Known.{notifies, notify_samples}
use Rattle.metric_families.proofs.server.notifies.Given as goal

-- what is there, with what is left, is all
abbrev pub invariant-loop-secondary : goal.invariant-loop-secondary
invariant-loop-secondary l = with_samples l.family (flat_map notify_samples (drop l.secondary-index l.secondaries)) ≡ notifies l.secondaries
