use Rattle.std.proofs.Common.{◌≡◌, ◌+◌, ◌-◌, ◌<◌, ◌∷◌, Some, None, replicate}
use Rattle.std.specs.Vec.{vec_capacity, vec_len}
use Rattle.counted_handles.proofs.made.begun_slots.Given as goal

abbrev pub invariant-loop-slot : goal.invariant-loop-slot
invariant-loop-slot g l = record {
  values : l.values.items ≡ Some l.fn.version ∷ replicate l.slot None;
  within : l.slot < 64;
  count : vec_len l.values ≡ l.slot + 1;
  room : vec_capacity l.values ≡ 64;
}

abbrev pub decreases-loop-slot : goal.decreases-loop-slot
decreases-loop-slot g l = 64 - l.slot
