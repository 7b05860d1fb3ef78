use Rattle.std.proofs.Common.{◌≡◌, drop, map}
use Rattle.record_text.specs.Generic.{hexes_of}
use Rattle.zone_lexing.specs.Word.{written}
use Rattle.record_text.proofs.DataLemmas.{behind}
use Rattle.record_text.proofs.generic.put_hexes.Given as goal

abbrev pub invariant-loop-word : goal.invariant-loop-word
invariant-loop-word l = behind l.octets.items (hexes_of (map written (drop l.word-index l.words))) ≡ behind l.initial.octets.items (hexes_of (map written l.words))
