use Rattle.std.proofs.Common.{◌≡◌, ◌++◌, flat_map, drop}
use Rattle.metrics_text.specs.Exposition.{value_octet}
use Rattle.metrics_text.proofs.write.put_value.Given as goal

-- what is written, with what is left, is all
abbrev pub invariant-loop-octet : goal.invariant-loop-octet
invariant-loop-octet l = l.text.items ++ flat_map (value_octet) (drop l.octet-index l.octets) ≡ l.initial.text.items ++ flat_map (value_octet) l.octets
