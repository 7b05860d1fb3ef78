use Rattle.std.proofs.Common.{◌≡◌, ◌++◌, flat_map, drop}
use Rattle.metrics_text.specs.Exposition.{sample_line}
use Rattle.metrics_text.proofs.write.put_samples.Given as goal

-- what is written, with what is left, is all
abbrev pub invariant-loop-sample : goal.invariant-loop-sample
invariant-loop-sample l = l.text.items ++ flat_map (sample_line l.name) (drop l.sample-index l.samples) ≡ l.initial.text.items ++ flat_map (sample_line l.name) l.samples
