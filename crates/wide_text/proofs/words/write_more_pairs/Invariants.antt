use Rattle.std.proofs.Common.{◌≡◌, ◌++◌, drop, string_bytes}
use Rattle.wide_text.specs.Words.{more_pairs}
use Rattle.wide_text.proofs.words.write_more_pairs.Given as goal

abbrev pub invariant-loop-octet : goal.invariant-loop-octet
invariant-loop-octet l = string_bytes l.text ++ more_pairs (drop l.octet-index l.octets) ≡ string_bytes l.initial.text ++ more_pairs l.octets
