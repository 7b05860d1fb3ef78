use Rattle.std.proofs.Common.{◌≡◌, ◌+◌, drop, map}
use Rattle.wide_text.specs.Location.{words_before}
use Rattle.wide_text.specs.Mnemonics.{mnemonic_seen}
use Rattle.zone_lexing.specs.Word.{written}
use Rattle.wide_text.proofs.location.words_before.Given as goal

abbrev pub invariant-loop-word : goal.invariant-loop-word
invariant-loop-word l = record {
  place : l.count ≡ l.word-index;
  way : l.count + words_before (map mnemonic_seen l.letters) (map written (drop l.word-index l.words)) ≡ words_before (map mnemonic_seen l.letters) (map written l.words);
}
