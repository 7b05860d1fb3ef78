use Rattle.std.proofs.Common.{◌<◌}
use Rattle.std.specs.List.{AllByRecursion}
use Rattle.std.specs.Ordering.{nat_cmp}
use Rattle.shared_tree.specs.Pairs.{IsAscending}
use Rattle.test_zone.proofs.trees.numbers.Given as goal

-- the numbers so far ascend, and all are less than the next
abbrev pub invariant-loop-number : goal.invariant-loop-number
invariant-loop-number l = record {
  ascends : IsAscending nat_cmp l.pairs.items;
  below : AllByRecursion (λ pair. pair.0 < l.number) l.pairs.items;
}
