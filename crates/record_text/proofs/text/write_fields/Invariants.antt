use Rattle.std.proofs.Common.{◌≡◌, ◌++◌, drop, string_bytes}
use Rattle.record_text.specs.Text.{words_at, text_of_words}
use Rattle.record_text.proofs.text.write_fields.Given as goal

abbrev pub invariant-loop-field : goal.invariant-loop-field
invariant-loop-field l = string_bytes l.text ++ text_of_words (words_at (drop l.field-index l.fields) l.rest) ≡ string_bytes l.initial.text ++ text_of_words (words_at l.fields l.octets)
