use Rattle.std.proofs.Common.{◌≡◌, ◌-◌, ◌≤◌}
use lib.ListN.{take}
use Rattle.core.specs.Mem.Slots.{slots_items, slots_filled, slots_ptr, slots_len}
use Rattle.core.specs.Mem.Slots.Ownership.{Filled}
use Rattle.std.specs.Vec.{vec_capacity, vec_len}
use Rattle.raw_slots.proofs.laid.unlay.Given as goal

abbrev pub invariant-loop-i : goal.invariant-loop-i
invariant-loop-i g l = (l.i ≤ l.count) × (slots_items l.slots ≡ l.fn.row.values) × (slots_len l.slots ≡ l.count) × (slots_ptr l.slots ≡ l.fn.row.at) × Filled (slots_filled l.slots) l.i (slots_len l.slots)
    × (l.values.items ≡ take l.i l.fn.row.values) × (vec_len l.values ≡ l.i) × (vec_capacity l.values ≡ vec_capacity l.initial.values)

abbrev pub decreases-loop-i : goal.decreases-loop-i
decreases-loop-i g l = l.count - l.i
