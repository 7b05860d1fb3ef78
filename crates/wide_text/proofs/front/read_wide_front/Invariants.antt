use Rattle.std.proofs.Common.{◌≡◌, ◌<◌, ◌^◌, map, IfSome, drop}
use Rattle.wide_text.specs.Front.{front_from, wide_front}
use Rattle.zone_lexing.specs.Word.{written}
use Rattle.wide_text.proofs.front.read_wide_front.Given as goal

abbrev pub invariant-loop-at : goal.invariant-loop-at
invariant-loop-at l = record {
  way : front_from l.own l.classed (map written (drop l.at l.words)) ≡ wide_front (map written l.words);
  lasts : IfSome l.own (λ ttl. ttl.0 < 2 ^ 31);
}
