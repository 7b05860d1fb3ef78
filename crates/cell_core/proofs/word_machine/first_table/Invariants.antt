-- So many slots are free.
use Rattle.std.proofs.Common.{◌≡◌, ◌-◌, ◌∷◌, replicate}
use Rattle.cell_core.specs.Words.{first_slot, free_slot}
use Rattle.cell_core.proofs.word_machine.first_table.Given as goal

abbrev pub invariant-loop-i : goal.invariant-loop-i
invariant-loop-i g l = l.table.items ≡ first_slot l.fn.first ∷ replicate (l.i - 1) free_slot
