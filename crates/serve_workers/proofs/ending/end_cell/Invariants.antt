-- The tokens that come back are the cell's.
use Rattle.std.proofs.Common.{◌≡◌, IfErr}
use Rattle.std.specs.List.{All}
use Rattle.serve_workers.proofs.ending.end_cell.Given as goal

abbrev pub invariant-loop : goal.invariant-loop
invariant-loop g l =
    (goal.iterator-loop g).can_next l.iterator' × (goal.iterator-loop g).is_finite l.iterator'
    × IfErr l.tried (λ out. (out.publisher.cell ≡ out.cell) × All (λ r. r.cell ≡ out.cell) out.readers.items)
