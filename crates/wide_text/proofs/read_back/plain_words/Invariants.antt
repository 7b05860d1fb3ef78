use Rattle.std.proofs.Common.{◌≡◌, ◌++◌, drop, map}
use Rattle.wide_text.specs.Private.{plain_word}
use Rattle.zone_lexing.specs.Word.{written}
use Rattle.wide_text.proofs.read_back.plain_words.Given as goal

abbrev pub invariant-loop-text : goal.invariant-loop-text
invariant-loop-text l = map written l.words.items ++ map plain_word (drop l.text-index l.texts) ≡ map plain_word l.texts
