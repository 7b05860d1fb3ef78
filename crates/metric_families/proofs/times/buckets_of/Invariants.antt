use Rattle.std.proofs.Common.{◌≡◌, ◌-◌, ◌++◌}
use Rattle.metric_families.specs.Times.{buckets_from}
use Rattle.metric_families.proofs.times.buckets_of.Given as goal

-- what is there, with what is left, is all
abbrev pub invariant-loop-place : goal.invariant-loop-place
invariant-loop-place l = l.buckets.items ++ buckets_from l.times.counts l.place (11 - l.place) ≡ buckets_from l.times.counts 0 11
