use Rattle.std.proofs.Common.{◌≡◌, ◌++◌, flat_map, drop}
use Rattle.metrics_text.specs.Exposition.{family_text}
use Rattle.metrics_text.proofs.write.write_metrics.Given as goal

-- what is written, with what is left, is all
abbrev pub invariant-loop-family : goal.invariant-loop-family
invariant-loop-family l = l.text.items ++ flat_map (family_text) (drop l.family-index l.families) ≡ l.initial.text.items ++ flat_map (family_text) l.families
