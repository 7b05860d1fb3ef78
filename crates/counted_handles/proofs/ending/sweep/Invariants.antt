use Rattle.std.proofs.Common.{◌-◌, ◌≡◌, ◌≤◌, ℕ, []}
use Rattle.counted_handles.specs.declared.view.Publishing.{Publishing}
use Rattle.counted_handles.specs.declared.view.View.TheVariants.{Publishes}
use Rattle.counted_handles.specs.Calls.{IsSweeping}
use Rattle.counted_handles.proofs.ending.sweep.Given as goal

abbrev pub invariant-loop-slot : goal.invariant-loop-slot
invariant-loop-slot g l =
    (l.slot ≤ 64) × (l.seat.table_id ≡ l.initial.seat.table_id) × (l.seat.id ≡ l.initial.seat.id)
    × ((p : Publishing g.row.T.Denot) (word : ℕ) → IsSweeping p word l.last 0 l.initial.seat.me → l.seat.me ≡ (Publishes (record p { swept = l.slot }), []))

abbrev pub decreases-loop-slot : goal.decreases-loop-slot
decreases-loop-slot g l = 64 - l.slot
