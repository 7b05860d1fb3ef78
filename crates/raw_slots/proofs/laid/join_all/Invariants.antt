use Rattle.std.proofs.Common.{◌≡◌, ◌+◌, ◌≤◌, ◌++◌, length, map}
use Rattle.raw_slots.specs.Chains.{after, IsChain}
use Rattle.raw_slots.proofs.laid.join_all.Given as goal

abbrev pub invariant-loop-place : goal.invariant-loop-place
invariant-loop-place g l = (map (λ y. y.value) l.places.items ++ l.row.values ≡ map (λ y. y.value) l.fn.places.items ++ l.fn.row.values) × IsChain g.row.T l.fn.first.at l.places.items
    × (l.row.at ≡ after g.row.T l.fn.first.at (length l.places.items)) × (length l.places.items + length l.row.values ≤ l.row.total) × (l.row.total ≡ l.fn.row.total)

abbrev pub decreases-loop-place : goal.decreases-loop-place
decreases-loop-place g l = length l.places.items
