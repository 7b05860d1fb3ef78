use Rattle.std.proofs.Common.{◌≡◌, ◌≤◌, length, refl, sym, ◌∙◌, arith, eqb-true, ◌∷◌, []}
use Rattle.lookup_core.specs.Additional.{wanted_sets}
use Rattle.lookup_core.specs.Shown.{section_shown, AreAllAt}
use Rattle.lookup_core.proofs.AdditionalLemmas.{both_types, with_more-full}
use Rattle.lookup_core.proofs.additional.add_addresses.Goals as goal

-- there is no room for more
pub returns-then-is_full : goal.returns-then-is_full
returns-then-is_full g c =
    let all : length c.args.additional.now ≡ 32 = eqb-true _ _ (sym c.is_full.ensures ∙ c.if-is_full.true) in
    let full : 32 ≤ length c.args.additional.now = omega arith in
    sym (with_more-full c.args.additional.now (wanted_sets (g.Z.ZoneRead.records c.args.zone.now) (section_shown c.args.answer.now) (c.args.host.now ∷ [])) full)

-- the set of either type is among those at the name
pub returns : goal.returns
returns g c =
    let zone = g.Z.ZoneRead.records c.args.zone.now in
    let all : AreAllAt zone c.args.host.now c.rrsets_at-sets.result.now = record { records = c.rrsets_at-sets.ensures.records; whole = c.rrsets_at-sets.ensures.whole } in
    both_types zone (section_shown c.args.answer.now) c.args.additional.now c.add_set.new.additional c.add_set-2.new.additional c.args.host.now _ _
    (c.add_set.ensures zone c.args.host.now all) (c.add_set-2.ensures zone c.args.host.now all) refl
