use Rattle.std.proofs.Common.{◌≡◌, ◌++◌, drop, flat_map, string_bytes}
use Rattle.record_text.specs.Text.{string_octet}
use Rattle.wide_text.proofs.words.write_quoted.Given as goal

abbrev pub invariant-loop-octet : goal.invariant-loop-octet
invariant-loop-octet l = string_bytes l.text ++ flat_map string_octet (drop l.octet-index l.string) ≡ string_bytes l.initial.text ++ flat_map string_octet l.string
