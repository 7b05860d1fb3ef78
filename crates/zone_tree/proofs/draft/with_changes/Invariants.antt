use Rattle.std.proofs.Common.{◌≡◌, drop}
use Rattle.zone_tree.specs.Change.{edited}
use Rattle.zone_tree.specs.Edit.{IsDraft}
use Rattle.zone_tree.specs.Filed.{records_under}
use Rattle.zone_tree.proofs.draft.with_changes.Given as goal

-- The changes that are left make the same of the draft so far as all make of the first.
abbrev pub invariant-loop-change : goal.invariant-loop-change
invariant-loop-change l = record {
  draft : IsDraft l.draft.owners.pairs l.draft.count;
  records : edited (records_under l.draft.owners.pairs) (drop l.change-index l.changes) ≡ edited (records_under l.initial.draft.owners.pairs) l.changes;
}
