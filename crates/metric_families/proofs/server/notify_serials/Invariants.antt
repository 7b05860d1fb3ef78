use Rattle.std.proofs.Common.{◌≡◌, drop, flat_map}
use Rattle.metrics_text.specs.Families.{with_samples}
use Rattle.metric_families.specs.Known.{notify_serials, serial_samples}
use Rattle.metric_families.proofs.server.notify_serials.Given as goal

-- what is there, with what is left, is all
abbrev pub invariant-loop-secondary : goal.invariant-loop-secondary
invariant-loop-secondary l = with_samples l.family (flat_map (λ secondary. serial_samples secondary.address secondary.serial) (drop l.secondary-index l.secondaries)) ≡ notify_serials l.secondaries
