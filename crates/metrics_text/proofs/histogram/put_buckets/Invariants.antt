use Rattle.std.proofs.Common.{◌≡◌, ◌++◌, drop}
use Rattle.metrics_text.specs.Histograms.{bucket_samples, counted}
use Rattle.metrics_text.proofs.histogram.put_buckets.Given as goal

-- what is written, with what is left, is all; and so is what was counted
abbrev pub invariant-loop-each : goal.invariant-loop-each
invariant-loop-each l = record {
  written : l.samples.items ++ bucket_samples l.below (drop l.each-index l.buckets) ≡ l.initial.samples.items ++ bucket_samples 0 l.buckets;
  all : counted l.below (drop l.each-index l.buckets) ≡ counted 0 l.buckets;
}
