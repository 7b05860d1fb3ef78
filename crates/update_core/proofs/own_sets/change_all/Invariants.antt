use Rattle.std.proofs.Common.{◌≡◌}
use Rattle.zone_tree.specs.Edit.{AreOwn}
use Rattle.update_core.specs.Overlay.{edited_sets}
use Rattle.update_core.proofs.own_sets.change_all.Given as goal

-- the sets so far are the owner's, with the changes that were taken
abbrev pub invariant-loop-change : goal.invariant-loop-change
invariant-loop-change l = record {
  own : AreOwn l.owner l.own.items;
  sets : l.own.items ≡ edited_sets l.initial.own.items l.yielded;
}
