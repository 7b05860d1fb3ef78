use Rattle.std.proofs.Common.{◌∙◌}
use Rattle.update_core.proofs.OverlayEdits.{own_from_key, found_from_key}
use Rattle.update_core.proofs.place.Place.new.Goals as goal

pub invariant_of-result : goal.invariant_of-result
invariant_of-result c = record {
  lawful = c.check.ensures;
  own = own_from_key c.args.tagged.now c.args.owner.now c.requires c.sets_at.result.now c.sets_at.ensures.own;
  records = c.sets_at.ensures.records ∙ found_from_key c.args.tagged.now c.args.owner.now c.requires c.args.zone.now.made;
}
