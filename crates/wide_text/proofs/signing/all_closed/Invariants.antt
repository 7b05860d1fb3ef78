use Rattle.std.proofs.Common.{◌≡◌, drop, map}
use Rattle.wide_text.specs.Signing.{all_closed}
use Rattle.zone_lexing.specs.Word.{written}
use Rattle.wide_text.proofs.signing.all_closed.Given as goal

abbrev pub invariant-loop-word : goal.invariant-loop-word
invariant-loop-word l = all_closed (map written (drop l.word-index l.words)) ≡ all_closed (map written l.words)
