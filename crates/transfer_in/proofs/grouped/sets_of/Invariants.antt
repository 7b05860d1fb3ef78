use Rattle.std.proofs.Common.{◌≡◌, ◌++◌}
use Rattle.zone_tree.specs.Sets.{records_in}
use Rattle.transfer_in.specs.Grouped.{AreInOrder}
use Rattle.transfer_in.proofs.grouped.sets_of.Given as goal

abbrev pub invariant-loop-held : goal.invariant-loop-held
invariant-loop-held l = record {
  all : records_in l.sets.items ++ l.held-iterator ≡ l.fn.records;
  rising : AreInOrder l.sets.items;
}
