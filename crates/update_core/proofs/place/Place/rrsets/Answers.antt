use Rattle.std.proofs.Common.{ap, subst, ◌∙◌}
use Rattle.zone_tree.specs.Zone.{rrsets_of}
use Rattle.zone_tree.specs.Sets.{AreWhole}
use Rattle.update_core.specs.Overlay.{Placed}
use Rattle.update_core.proofs.OverlayLooks.{whole_found}
use Rattle.update_core.proofs.place.Place.rrsets.Goals as goal

pub returns-clause-records : goal.returns-clause-records
returns-clause-records c = c.self.invariant.records ∙ ap (λ (v : Placed). rrsets_of v.made v.owner) c.self.view_is

pub returns-clause-whole : goal.returns-clause-whole
returns-clause-whole c = subst (λ (v : Placed). AreWhole v.made c.self.inside.sets.now) c.self.view_is (whole_found c.self.inside.zone.now.made c.self.inside.owner.now c.self.inside.sets.now c.self.invariant.own c.self.invariant.records)
