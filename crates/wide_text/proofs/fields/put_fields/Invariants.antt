use Rattle.std.proofs.Common.{◌≡◌, ◌≤◌, length, drop, map}
use Rattle.zone_lexing.specs.Word.{written}
use Rattle.wide_text.proofs.FieldLemmas.{whole}
use Rattle.wide_text.proofs.fields.put_fields.Given as goal

abbrev pub invariant-loop-at : goal.invariant-loop-at
invariant-loop-at l = record {
  way : whole l.octets.items l.origin (drop l.at l.fields) l.rest (map written (drop l.at l.words)) ≡ whole l.initial.octets.items l.origin l.fields l.rest (map written l.words);
  within : l.at ≤ length l.words;
}
