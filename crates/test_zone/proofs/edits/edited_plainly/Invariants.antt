use Rattle.std.proofs.Common.{◌≡◌, drop}
use Rattle.zone_tree.specs.Change.{edited}
use Rattle.zone_tree.specs.Sets.{records_in, AreAscending}
use Rattle.test_zone.proofs.edits.edited_plainly.Given as goal

abbrev pub invariant-loop-change : goal.invariant-loop-change
invariant-loop-change l = record {
  rising : AreAscending l.sets.items;
  records : edited (records_in l.sets.items) (drop l.change-index l.changes) ≡ edited (records_in l.initial.sets.items) l.changes;
}
