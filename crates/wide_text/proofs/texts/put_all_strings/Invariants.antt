use Rattle.std.proofs.Common.{◌≡◌, drop, map}
use Rattle.record_text.specs.Strings.{strings_of}
use Rattle.record_text.proofs.DataLemmas.{behind}
use Rattle.zone_lexing.specs.Word.{written}
use Rattle.wide_text.proofs.texts.put_all_strings.Given as goal

abbrev pub invariant-loop-word : goal.invariant-loop-word
invariant-loop-word l = behind l.octets.items (strings_of (map written (drop l.word-index l.words))) ≡ behind l.initial.octets.items (strings_of (map written l.words))
