use Rattle.std.specs.List.{AllAdjacentBelow}
use Rattle.zone_tree.specs.Sets.{IsSetBefore}
use Rattle.zone_tree.proofs.check.check_order.Given as goal

-- Each of the sets so far comes before the next.
abbrev pub invariant-loop-i : goal.invariant-loop-i
invariant-loop-i l = AllAdjacentBelow IsSetBefore l.sets l.i
