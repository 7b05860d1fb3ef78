use Rattle.std.proofs.Common.{◌≡◌, ℕ, ◌≤◌, ◌++◌, length}
use lib.ListN.{drop}
use Rattle.core.specs.Mem.Slots.{slots_items, slots_filled, slots_ptr, slots_len}
use Rattle.core.specs.Mem.Slots.Ownership.{Filled}
use Rattle.raw_slots.proofs.laid.fill.Given as goal

abbrev pub invariant-loop-x : goal.invariant-loop-x
invariant-loop-x g l = let n : ℕ = length l.values.items in (n ≤ slots_len l.slots) × (l.values.items ++ drop n (slots_items l.slots) ≡ l.initial.values.items) × Filled (slots_filled l.slots) n (slots_len l.slots)
    × (slots_ptr l.slots ≡ slots_ptr l.initial.slots) × (slots_len l.slots ≡ slots_len l.initial.slots)

abbrev pub decreases-loop-x : goal.decreases-loop-x
decreases-loop-x g l = length l.values.items
