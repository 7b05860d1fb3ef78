use Rattle.std.proofs.Common.{◌≡◌, ◌+◌, ◌<◌, ◌≤◌, ℕ, false, length, get_or}
use Rattle.core.specs.Mem.Slots.{slots_items, slots_filled, slots_len}
use Rattle.core.specs.Mem.Slots.Ownership.{Filled}
use Rattle.raw_slots.specs.Chains.{after, IsChain}
use Rattle.raw_slots.proofs.closed.join_closed.Given as goal

abbrev pub invariant-loop-left : goal.invariant-loop-left
invariant-loop-left g l = (l.left ≤ l.fn.count) × IsChain g.row.T l.fn.first.at (slots_items l.closed.slots) × (slots_len l.closed.slots ≡ l.fn.count) × Filled (slots_filled l.closed.slots) 0 l.left
    × ((k : ℕ) → l.left ≤ k → k < l.fn.count → get_or (slots_filled l.closed.slots) k false ≡ false) × (l.row.at ≡ after g.row.T l.fn.first.at l.left) × (length l.row.values + l.left ≡ l.fn.count) × (l.row.total ≡ l.fn.count)

abbrev pub decreases-loop-left : goal.decreases-loop-left
decreases-loop-left g l = l.left
