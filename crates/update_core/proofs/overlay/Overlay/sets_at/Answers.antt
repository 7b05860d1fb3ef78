use Rattle.std.proofs.Common.{sym, ap, subst, ◌∙◌}
use Rattle.std.specs.Option.{option_copied}
use Rattle.zone_tree.specs.Zone.{rrsets_of}
use Rattle.zone_tree.specs.Sets.{records_in}
use Rattle.zone_tree.specs.Edit.{AreOwn}
use Rattle.update_core.specs.Overlay.{Overlaid}
use Rattle.update_core.proofs.OverlayLooks.{last_there, beside_there, zone_there}
use Rattle.update_core.proofs.overlay.Overlay.sets_at.Goals as goal

pub returns-in-Some : goal.returns-in-Some
returns-in-Some c =
    let owner = c.args.owner.now in
    let both = last_there c.self.inside.zone.now c.self.inside.last c.self.inside.others.entries c.self.inside.count c.self.invariant owner c.in-Some.own.now (sym c.in-Some.ensures) in
    record { own = both.0; records = both.1 ∙ ap (λ (v : Overlaid). rrsets_of v.made owner) c.self.view_is }

pub returns-in-Some-get : goal.returns-in-Some-get
returns-in-Some-get c =
    let owner = c.args.owner.now in
    let none = sym c.last_sets.ensures ∙ ap option_copied c.in_default.is in
    let found = sym c.get.ensures.value ∙ ap option_copied c.in-Some-get.is in
    let both = beside_there c.self.inside.zone.now c.self.inside.last c.self.inside.others.entries c.self.inside.count c.self.invariant owner none c.in-Some-get.own.now found in
    record { own = subst (AreOwn owner) (sym c.as_slice.ensures.value) both.0; records = ap records_in c.as_slice.ensures.value ∙ both.1 ∙ ap (λ (v : Overlaid). rrsets_of v.made owner) c.self.view_is }

pub returns-in-None : goal.returns-in-None
returns-in-None c =
    let owner = c.args.owner.now in
    let zone = c.self.inside.zone.now in
    let none = sym c.last_sets.ensures ∙ ap option_copied c.in_default.is in
    let found = sym c.get.ensures.value ∙ ap option_copied c.in-None.is in
    let there = c.stored_sets.ensures.records ∙ ap (rrsets_of zone) c.name.ensures in
    let both = zone_there zone c.self.inside.last c.self.inside.others.entries c.self.inside.count c.self.invariant owner none found c.stored_sets.result.now c.stored_sets.ensures.each there c.stored_sets.ensures.whole in
    record { own = both.0; records = both.1 ∙ ap (λ (v : Overlaid). rrsets_of v.made owner) c.self.view_is }
