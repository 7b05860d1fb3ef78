use Rattle.std.proofs.Common.{◌≡◌, ◌+◌, ◌-◌, ◌≤◌, ◌++◌, length, map}
use Rattle.std.specs.Vec.{vec_capacity, vec_len}
use Rattle.raw_slots.specs.Chains.{after, IsCut}
use Rattle.raw_slots.proofs.laid.cut_all.Given as goal

abbrev pub invariant-loop-i : goal.invariant-loop-i
invariant-loop-i g l = (l.i ≤ l.count) × (length l.row.values + l.i ≡ l.count) × (l.row.at ≡ after g.row.T l.initial.row.at l.i) × (l.row.total ≡ l.initial.row.total)
    × (length l.places.items ≡ l.i) × (length l.spots.items ≡ l.i) × (vec_len l.places ≡ l.i) × (vec_len l.spots ≡ l.i) × (map (λ y. y.value) l.places.items ++ l.row.values ≡ l.initial.row.values)
    × IsCut g.row.T l.initial.row.at l.initial.row.values l.places.items l.spots.items × (vec_capacity l.places ≡ vec_capacity l.initial.places) × (vec_capacity l.spots ≡ vec_capacity l.initial.spots)

abbrev pub decreases-loop-i : goal.decreases-loop-i
decreases-loop-i g l = l.count - l.i
