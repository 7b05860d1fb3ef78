use Rattle.std.proofs.Common.{◌≡◌, take}
use Rattle.update_core.proofs.own_sets.copies.Given as goal

-- the sets so far were copied
abbrev pub invariant-loop-set : goal.invariant-loop-set
invariant-loop-set l = l.own.items ≡ take l.set-index l.sets
