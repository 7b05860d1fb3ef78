use Rattle.std.proofs.Common.{Some, None, cond, sym, ap, ◌∙◌}
use Rattle.std.specs.Option.{option_copied, option_map, option_or}
use Rattle.dns_name.specs.Name.{is_under}
use Rattle.dns_rdata.specs.Numbers.{type_NS}
use Rattle.zone_tree.specs.Zone.{rrset_of}
use Rattle.lookup_core.specs.Place.{is_cut, cut_of}
use Rattle.lookup_core.proofs.ApexLemmas.{no_cut_above, no_cut_at_root, cut_of-parent, is_cut-below}
use Rattle.lookup_core.proofs.DownLemmas.{first_servers, no_first, own_servers}
use Rattle.lookup_core.proofs.walk.+cut_of.Goals as goal

-- the name is the apex, or above it
pub returns-then-is_above : goal.returns-then-is_above
returns-then-is_above g t c =
    let zone = g.Z.ZoneRead.records c.args.zone.now in
    ap (option_map (λ cut. rrset_of zone cut type_NS)) (sym (no_cut_above zone c.requires.lawful c.args.name.now
    (ap (λ apex. is_under apex c.args.name.now) (sym c.requires.top) ∙ sym c.is_above.ensures ∙ c.if-is_above.true)))

-- it is the root
pub returns-in_err-above : goal.returns-in_err-above
returns-in_err-above g t c =
    let zone = g.Z.ZoneRead.records c.args.zone.now in
    ap option_copied c.from_residual.ensures ∙ ap (option_map (λ cut. rrset_of zone cut type_NS)) (sym (no_cut_at_root zone c.requires.lawful c.args.name.now (sym c.parent.ensures ∙ c.in_err-above.was)))

-- the cut is above the name
pub returns-in-Some : goal.returns-in-Some
returns-in-Some g t c =
    let zone = g.Z.ZoneRead.records c.args.zone.now in
    first_servers (λ cut. rrset_of zone cut type_NS) (cut_of zone c.in_ok-above.above) (cond (is_cut zone c.args.name.now) (Some c.args.name.now) None) c.in-Some.servers.now (ap option_copied (sym c.in-Some.is) ∙ c.cut_of.ensures)
    ∙ ap (option_map (λ cut. rrset_of zone cut type_NS)) (sym (cut_of-parent zone c.args.name.now c.in_ok-above.above (sym c.parent.ensures ∙ c.in_ok-above.was)))

-- it is the name, or there is none
pub returns : goal.returns
returns g t c =
    let zone = g.Z.ZoneRead.records c.args.zone.now in
    let name = c.args.name.now in
    let below = ap (λ apex. is_under apex name) (sym c.requires.top) ∙ sym c.is_above.ensures ∙ c.if-is_above.false in
    let none = no_first (λ cut. rrset_of zone cut type_NS) (cut_of zone c.in_ok-above.above) (ap option_copied (sym c.in_default.is) ∙ c.cut_of.ensures) in
    own_servers zone name c.set_of.result (c.set_of.ensures.none zone name c.known_sets.ensures) (c.set_of.ensures.set zone name c.known_sets.ensures) (is_cut-below zone name below)
    ∙ ap (option_map (λ cut. rrset_of zone cut type_NS))
    (sym (cut_of-parent zone name c.in_ok-above.above (sym c.parent.ensures ∙ c.in_ok-above.was) ∙ ap (λ o. option_or o (cond (is_cut zone name) (Some name) None)) none))
