use Rattle.std.proofs.Common.{◌≡◌, ◌++◌, length, map}
use Rattle.wide_text.specs.ParamWords.{param_words, params_words}
use Rattle.wide_text.specs.Private.{plain_word}
use Rattle.wide_text.proofs.param_words.param_words.Given as goal

abbrev pub invariant-loop-rest : goal.invariant-loop-rest
invariant-loop-rest l = map plain_word l.words.items ++ params_words (length l.rest) l.rest ≡ param_words l.octets

abbrev pub decreases-loop-rest : goal.decreases-loop-rest
decreases-loop-rest l = length l.rest
