-- What stands at the name, or else what the owners next to it tell.
use Rattle.std.proofs.Common.{sym, ap, subst, ◌∙◌, Some, None, refl}
use Rattle.std.specs.List.{find}
use Rattle.std.specs.Option.{option_copied, option_map, IsNone}
use Rattle.dns_name.specs.Name.{self_and_ancestors}
use Rattle.zone_tree.specs.Filed.{Filed, records_under}
use Rattle.zone_tree.specs.Sets.{AreWhole, records_in}
use Rattle.zone_tree.specs.Zone.{exists, rrsets_of}
use Rattle.zone_tree.proofs.FiledLemmas.{rrsets_at_key, whole_at_key}
use Rattle.zone_tree.proofs.NearLemmas.{closest_at, closest_between, items_here}
use Rattle.zone_tree.proofs.zone.ZoneZoneRead.around.Goals as goal

-- the name is an owner
pub returns-in-Some-clause-records : goal.returns-in-Some-clause-records
returns-in-Some-clause-records c =
    let pairs = c.self.inside.owners.pairs in
    let here = ap option_copied (sym c.in-Some.is) ∙ c.around-found.ensures.at in
    ap records_in (c.as_slice.ensures ∙ items_here c.args.name.now pairs (Some c.in-Some.pair.now) here) ∙ rrsets_at_key pairs c.self.invariant.filed c.args.name.now
    ∙ ap (λ zone. rrsets_of zone c.args.name.now) c.self.view_is

pub returns-in-Some-clause-whole : goal.returns-in-Some-clause-whole
returns-in-Some-clause-whole c =
    let pairs = c.self.inside.owners.pairs in
    let here = ap option_copied (sym c.in-Some.is) ∙ c.around-found.ensures.at in
    let sets = c.as_slice.ensures ∙ items_here c.args.name.now pairs (Some c.in-Some.pair.now) here in
    rw (← c.self.view_is) (subst (AreWhole (records_under pairs)) (sym sets) (whole_at_key pairs c.self.invariant.filed c.args.name.now))

pub returns-in-Some-clause-closest : goal.returns-in-Some-clause-closest
returns-in-Some-clause-closest c =
    let pairs = c.self.inside.owners.pairs in
    let here = ap option_copied (sym c.in-Some.is) ∙ c.around-found.ensures.at in
    ap (λ zone. find (exists zone) (self_and_ancestors c.args.name.now)) (sym c.self.view_is)
    ∙ closest_at c.args.name.now pairs c.in-Some.pair.now c.self.invariant.filed (sym here) ∙ ap Some (sym c.same.ensures)

-- it owns nothing
pub returns-in-None-clause-records : goal.returns-in-None-clause-records
returns-in-None-clause-records c =
    let pairs = c.self.inside.owners.pairs in
    let none = ap option_copied (sym c.in-None.is) ∙ c.around-found.ensures.at in
    ap records_in (items_here c.args.name.now pairs None none) ∙ rrsets_at_key pairs c.self.invariant.filed c.args.name.now ∙ ap (λ zone. rrsets_of zone c.args.name.now) c.self.view_is

pub returns-in-None-clause-whole : goal.returns-in-None-clause-whole
returns-in-None-clause-whole c =
    let pairs = c.self.inside.owners.pairs in
    let none = ap option_copied (sym c.in-None.is) ∙ c.around-found.ensures.at in
    rw (← c.self.view_is) (subst (AreWhole (records_under pairs)) (sym (items_here c.args.name.now pairs None none)) (whole_at_key pairs c.self.invariant.filed c.args.name.now))

pub returns-in-None-clause-closest : goal.returns-in-None-clause-closest
returns-in-None-clause-closest c =
    let pairs = c.self.inside.owners.pairs in
    let none = ap option_copied (sym c.in-None.is) ∙ c.around-found.ensures.at in
    let left = c.owner_in-before.ensures ∙ ap (option_map (λ (p : Filed). p.0)) (c.around-found.ensures.before (subst (λ o. IsNone o) (sym c.in-None.is) refl)) in
    let right = c.owner_in-behind.ensures ∙ ap (option_map (λ (p : Filed). p.0)) (c.around-found.ensures.behind (subst (λ o. IsNone o) (sym c.in-None.is) refl)) in
    ap (λ zone. find (exists zone) (self_and_ancestors c.args.name.now)) (sym c.self.view_is)
    ∙ closest_between c.args.name.now pairs c.self.invariant.filed c.self.invariant.lawful.rules.one_soa (sym none) _ _ left right c.closest.result c.closest.ensures
