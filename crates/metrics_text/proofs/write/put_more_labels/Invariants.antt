use Rattle.std.proofs.Common.{◌≡◌, ◌++◌, flat_map, drop}
use Rattle.metrics_text.specs.Exposition.{after_comma}
use Rattle.metrics_text.proofs.write.put_more_labels.Given as goal

-- what is written, with what is left, is all
abbrev pub invariant-loop-label : goal.invariant-loop-label
invariant-loop-label l = l.text.items ++ flat_map (after_comma) (drop l.label-index l.labels) ≡ l.initial.text.items ++ flat_map (after_comma) l.labels
