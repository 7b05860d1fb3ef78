use Rattle.std.proofs.Common.{◌≡◌, ◌≤◌, length, drop, map}
use Rattle.zone_lexing.specs.Word.{written}
use Rattle.record_text.proofs.DataLemmas.{whole}
use Rattle.record_text.proofs.data.put_fields.Given as goal

abbrev pub invariant-loop-at : goal.invariant-loop-at
invariant-loop-at l = record {
  way : whole l.octets.items l.origin (drop l.at l.fields) (map written (drop l.at l.words)) ≡ whole l.initial.octets.items l.origin l.fields (map written l.words);
  within : l.at ≤ length l.words;
}
