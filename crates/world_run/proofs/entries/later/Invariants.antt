use Rattle.std.proofs.Common.{◌≡◌, false, []}
use Rattle.world_run.proofs.EntryLemmas.{found_of, left_up_to}
use Rattle.world_run.proofs.entries.later.Given as goal

-- what is found with those behind
abbrev pub invariant-loop-entry : goal.invariant-loop-entry
invariant-loop-entry l =
    (l.found ≡ false → l.owners ≡ []) × (found_of l.serial.0 l.found l.owners (left_up_to l.number l.entries l.entry-index) ≡ found_of l.serial.0 false [] (left_up_to l.number l.entries 0))
