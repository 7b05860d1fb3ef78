use Rattle.std.proofs.Common.{◌≡◌, ◌++◌, drop, flat_map, string_bytes}
use Rattle.wide_text.specs.ParamWords.{value_octet}
use Rattle.wide_text.proofs.param_words.write_value_octets.Given as goal

abbrev pub invariant-loop-octet : goal.invariant-loop-octet
invariant-loop-octet l = string_bytes l.text ++ flat_map value_octet (drop l.octet-index l.octets) ≡ string_bytes l.initial.text ++ flat_map value_octet l.octets
