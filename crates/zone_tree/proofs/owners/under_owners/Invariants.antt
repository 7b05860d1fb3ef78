use Rattle.zone_tree.specs.Filed.{AreGathered}
use Rattle.zone_tree.proofs.owners.under_owners.Given as goal

-- The sets so far stand under their owners.
abbrev pub invariant-loop-set : goal.invariant-loop-set
invariant-loop-set l = AreGathered l.pairs.items l.yielded
