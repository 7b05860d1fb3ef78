use Rattle.std.proofs.Common.{take}
use Rattle.wide_text.proofs.KeyedLemmas.{AreLess}
use Rattle.wide_text.proofs.keyed.place_of.Given as goal

abbrev pub invariant-loop-place : goal.invariant-loop-place
invariant-loop-place l = AreLess l.key (take l.place l.others)
