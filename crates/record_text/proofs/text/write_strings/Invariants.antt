use Rattle.std.proofs.Common.{◌≡◌, ◌++◌, length, string_bytes}
use Rattle.record_text.specs.Text.{words_of, text_of_words}
use Rattle.record_text.proofs.text.write_strings.Given as goal

abbrev pub invariant-loop-len : goal.invariant-loop-len
invariant-loop-len l = string_bytes l.text ++ text_of_words (words_of 16 l.rest) ≡ string_bytes l.initial.text ++ text_of_words (words_of 16 l.octets)

abbrev pub decreases-loop-len : goal.decreases-loop-len
decreases-loop-len l = length l.rest
