use Rattle.std.proofs.Common.{◌-◌, ◌≡◌, ◌≤◌, ℕ, List, [], length}
use Rattle.cell_core.specs.declared.words.Publisher.TheVariants.{Probing}
use Rattle.counted_handles.specs.declared.view.Publishing.{Publishing}
use Rattle.counted_handles.specs.declared.view.View.TheVariants.{Publishes}
use Rattle.counted_handles.specs.Calls.{IsProbing}
use Rattle.counted_handles.specs.Found.{found_before, Falls}
use Rattle.counted_handles.proofs.CallLemmas.{wrapped}
use Rattle.counted_handles.proofs.found.scan_all.Given as goal

abbrev pub invariant-loop-slot : goal.invariant-loop-slot
invariant-loop-slot g l =
    (l.slot ≤ 64) × (l.count ≤ l.slot) × (l.seat.table_id ≡ l.initial.seat.table_id) × (l.seat.id ≡ l.initial.seat.id)
    × ((p : Publishing g.row.T.Denot) → IsProbing p 0 l.initial.seat.me
    → (found : List ℕ) × (l.seat.me ≡ (Publishes (record p { how = Probing (wrapped l.slot); found = found }), [])) × Falls l.slot (found_before l.slot found) × (length (found_before l.slot found) ≡ l.count))

abbrev pub decreases-loop-slot : goal.decreases-loop-slot
decreases-loop-slot g l = 64 - l.slot
