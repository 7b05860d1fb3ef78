use Rattle.std.proofs.Common.{◌≡◌, drop, map}
use Rattle.record_text.proofs.DataLemmas.{behind}
use Rattle.wide_text.specs.Encoded.{joined}
use Rattle.zone_lexing.specs.Word.{written}
use Rattle.wide_text.proofs.encoded.put_joined.Given as goal

abbrev pub invariant-loop-word : goal.invariant-loop-word
invariant-loop-word l = behind l.text.items (joined (map written (drop l.word-index l.words))) ≡ behind l.initial.text.items (joined (map written l.words))
