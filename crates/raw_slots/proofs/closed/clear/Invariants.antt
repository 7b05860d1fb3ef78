use Rattle.std.proofs.Common.{◌≡◌, ◌-◌, ◌≤◌}
use Rattle.core.specs.Mem.Slots.{slots_filled, slots_ptr, slots_len}
use Rattle.core.specs.Mem.Slots.Ownership.{Filled}
use Rattle.raw_slots.proofs.closed.clear.Given as goal

abbrev pub invariant-loop-i : goal.invariant-loop-i
invariant-loop-i g l = (l.i ≤ l.count) × (slots_len l.slots ≡ l.count) × (slots_ptr l.slots ≡ l.fn.row.at) × Filled (slots_filled l.slots) l.i (slots_len l.slots)

abbrev pub decreases-loop-i : goal.decreases-loop-i
decreases-loop-i g l = l.count - l.i
