use Rattle.std.proofs.Common.{◌≡◌, ◌++◌, drop, map, string_bytes}
use Rattle.record_text.specs.Text.{text_of_words}
use Rattle.wide_text.specs.Private.{plain_word}
use Rattle.wide_text.proofs.read_back.write_all.Given as goal

abbrev pub invariant-loop-word : goal.invariant-loop-word
invariant-loop-word l = string_bytes l.text ++ text_of_words (map plain_word (drop l.word-index l.words)) ≡ string_bytes l.initial.text ++ text_of_words (map plain_word l.words)
