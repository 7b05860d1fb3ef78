-- The sought form stands to all owners as the name does.
use Rattle.std.proofs.Common.{ap, ◌∙◌}
use Rattle.zone_tree.specs.Filed.{items_of}
use Rattle.zone_tree.proofs.FiledLemmas.{same_value}
use Rattle.zone_tree.proofs.zone.sets_at.Goals as goal

pub returns : goal.returns
returns c = c.sets_of.ensures ∙ ap items_of (same_value c.new.result c.args.owner.now c.new.ensures.order c.args.owners.now.pairs)
