use Rattle.std.proofs.Common.{◌≡◌, drop, string_bytes}
use Rattle.wide_text.specs.Private.{text_with}
use Rattle.wide_text.specs.Words.{words_by}
use Rattle.wide_text.proofs.words.write_words.Given as goal

abbrev pub invariant-loop-field : goal.invariant-loop-field
invariant-loop-field l = text_with (string_bytes l.text) (words_by (drop l.field-index l.fields) l.rest l.left) ≡ text_with (string_bytes l.initial.text) (words_by l.fields l.rest l.octets)
