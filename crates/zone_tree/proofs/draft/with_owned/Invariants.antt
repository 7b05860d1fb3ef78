use Rattle.std.proofs.Common.{◌≡◌}
use Rattle.zone_tree.specs.Edit.{with_owners}
use Rattle.zone_tree.specs.Filed.{records_under, AreFiled}
use Rattle.zone_tree.proofs.draft.with_owned.Given as goal

-- The owners so far are in order, with the sets of those that were taken.
abbrev pub invariant-loop-owner : goal.invariant-loop-owner
invariant-loop-owner l = record {
  filed : AreFiled l.owners.pairs;
  records : records_under l.owners.pairs ≡ with_owners (records_under l.initial.owners.pairs) l.yielded;
}
