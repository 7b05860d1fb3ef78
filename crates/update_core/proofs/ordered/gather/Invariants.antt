use Rattle.std.proofs.Common.{◌≡◌, take}
use Rattle.update_core.specs.Ordered.{of_class_IN}
use Rattle.update_core.proofs.ordered.gather.Given as goal

-- the list has those of class IN so far
abbrev pub invariant-loop-raw : goal.invariant-loop-raw
invariant-loop-raw l = l.list.items ≡ of_class_IN (take l.raw-index l.raws)
