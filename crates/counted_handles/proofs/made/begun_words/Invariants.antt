use Rattle.std.proofs.Common.{◌≡◌, ◌+◌, ◌-◌, ◌<◌, ◌∷◌}
use Rattle.std.specs.Vec.{vec_capacity, vec_len}
use Rattle.cell_core.specs.Words.{bulk}
use Rattle.counted_handles.specs.Ruled.{free_words}
use Rattle.counted_handles.proofs.made.begun_words.Given as goal

abbrev pub invariant-loop-slot : goal.invariant-loop-slot
invariant-loop-slot l = record {
  words : l.words.items ≡ 0 ∷ bulk ∷ 1 ∷ free_words l.slot;
  within : l.slot < 64;
  count : vec_len l.words ≡ l.slot + l.slot + 3;
  room : vec_capacity l.words ≡ 129;
}

abbrev pub decreases-loop-slot : goal.decreases-loop-slot
decreases-loop-slot l = 64 - l.slot
