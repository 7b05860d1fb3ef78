-- The sets under the zone's owners are those of its records.
use Rattle.std.proofs.Common.{ap, ◌∙◌}
use Rattle.zone_tree.specs.Filed.{sets_under}
use Rattle.zone_tree.specs.Sets.{sets_in}
use Rattle.zone_tree.proofs.WalkLemmas.{sets_filed}
use Rattle.zone_tree.proofs.zone.ZoneZoneRead.walk.Goals as goal

pub returns-clause-sets : goal.returns-clause-sets
returns-clause-sets c = c.new.ensures ∙ ap sets_under c.walk.ensures ∙ sets_filed c.self.inside.owners.pairs c.self.invariant.filed ∙ ap sets_in c.self.view_is
