use Rattle.std.proofs.Common.{◌≡◌, [], subst}
use Rattle.std.specs.Prelude.{◌↔◌}
use Rattle.std.specs.Option.{IsNone, IfSome, option_copied}
use Rattle.zone_tree.specs.Zone.{rrset_of}
use Rattle.zone_tree.proofs.LookLemmas.{rrset_clauses}
use Rattle.update_core.specs.Overlay.{Placed}
use Rattle.update_core.proofs.OwnSets.{types_rise}
use Rattle.update_core.proofs.OverlayLooks.{set_found}
use Rattle.update_core.proofs.place.Place.rrset.Goals as goal

pub set_of_type-requires : goal.set_of_type-requires
set_of_type-requires c = types_rise c.self.inside.owner.now c.self.inside.sets.now c.self.invariant.own

pub returns-clause-none : goal.returns-clause-none
returns-clause-none c =
    let made = c.self.inside.zone.now.made in
    let owner = c.self.inside.owner.now in
    let found = set_found made owner c.self.inside.sets.now c.self.invariant.own c.self.invariant.records c.args.rtype.0 (option_copied c.set_of_type.result) c.set_of_type.ensures in
    subst (λ (v : Placed). IsNone c.set_of_type.result ↔ (rrset_of v.made v.owner c.args.rtype.0 ≡ [])) c.self.view_is (rrset_clauses (rrset_of made owner c.args.rtype.0) c.set_of_type.result found).0

pub returns-clause-set : goal.returns-clause-set
returns-clause-set c =
    let made = c.self.inside.zone.now.made in
    let owner = c.self.inside.owner.now in
    let found = set_found made owner c.self.inside.sets.now c.self.invariant.own c.self.invariant.records c.args.rtype.0 (option_copied c.set_of_type.result) c.set_of_type.ensures in
    subst (λ (v : Placed). IfSome c.set_of_type.result (λ set. set.now ≡ rrset_of v.made v.owner c.args.rtype.0)) c.self.view_is (rrset_clauses (rrset_of made owner c.args.rtype.0) c.set_of_type.result found).1
