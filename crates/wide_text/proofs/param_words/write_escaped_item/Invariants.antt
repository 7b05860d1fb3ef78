use Rattle.std.proofs.Common.{◌≡◌, ◌++◌, drop, flat_map, string_bytes}
use Rattle.wide_text.specs.ParamWords.{item_octet}
use Rattle.wide_text.proofs.param_words.write_escaped_item.Given as goal

abbrev pub invariant-loop-octet : goal.invariant-loop-octet
invariant-loop-octet l = string_bytes l.text ++ flat_map item_octet (drop l.octet-index l.octets) ≡ string_bytes l.initial.text ++ flat_map item_octet l.octets
