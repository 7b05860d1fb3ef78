use Rattle.std.proofs.Common.{Some, None, cond, not, sym, ap, ◌∙◌}
use Rattle.std.specs.Option.{option_or}
use Rattle.dns_name.specs.Name.{is_under}
use Rattle.lookup_core.specs.Place.{is_cut}
use Rattle.lookup_core.proofs.ApexLemmas.{no_cut_above, no_cut_at_root, cut_of-parent, is_cut-below}
use Rattle.lookup_core.proofs.SetLemmas.{is_none_of-found}
use Rattle.lookup_core.proofs.places.+cut_of.Goals as goal

-- the name is the apex, or above it
pub returns-then-is_under : goal.returns-then-is_under
returns-then-is_under g t c =
    sym (no_cut_above (g.Z.ZoneRead.records c.args.zone.now) c.apex.ensures.lawful c.args.name.now
    (ap (λ apex. is_under apex c.args.name.now) (sym c.apex.ensures.name) ∙ sym c.is_under.ensures ∙ c.if-is_under.true))

-- it is the root
pub returns-in_err-above : goal.returns-in_err-above
returns-in_err-above g t c =
    c.from_residual.ensures ∙ sym (no_cut_at_root (g.Z.ZoneRead.records c.args.zone.now) c.apex.ensures.lawful c.args.name.now (sym c.parent.ensures ∙ c.in_err-above.was))

-- the cut is above the name
pub returns-in-Some : goal.returns-in-Some
returns-in-Some g t c =
    let zone = g.Z.ZoneRead.records c.args.zone.now in
    sym (cut_of-parent zone c.args.name.now c.in_ok-above.above (sym c.parent.ensures ∙ c.in_ok-above.was)
    ∙ ap (λ o. option_or o (cond (is_cut zone c.args.name.now) (Some c.args.name.now) None)) (sym c.cut_of.ensures ∙ c.in-Some.is))

-- it is the name
pub returns-then-is_some : goal.returns-then-is_some
returns-then-is_some g t c =
    let zone = g.Z.ZoneRead.records c.args.zone.now in
    ap Some c.copy.ensures
    ∙ sym (cut_of-parent zone c.args.name.now c.in_ok-above.above (sym c.parent.ensures ∙ c.in_ok-above.was)
    ∙ ap (λ o. option_or o (cond (is_cut zone c.args.name.now) (Some c.args.name.now) None)) (sym c.cut_of.ensures ∙ c.in_default.is)
    ∙ ap (λ b. cond b (Some c.args.name.now) None)
    (is_cut-below zone c.args.name.now (ap (λ apex. is_under apex c.args.name.now) (sym c.apex.ensures.name) ∙ sym c.is_under.ensures ∙ c.if-is_under.false)
    ∙ ap not (is_none_of-found c.rrset.result _ c.rrset.ensures.none) ∙ ap (λ b. not (not b)) (sym c.is_some.ensures ∙ c.if-is_some.true)))

-- there is none
pub returns : goal.returns
returns g t c =
    let zone = g.Z.ZoneRead.records c.args.zone.now in
    sym (cut_of-parent zone c.args.name.now c.in_ok-above.above (sym c.parent.ensures ∙ c.in_ok-above.was)
    ∙ ap (λ o. option_or o (cond (is_cut zone c.args.name.now) (Some c.args.name.now) None)) (sym c.cut_of.ensures ∙ c.in_default.is)
    ∙ ap (λ b. cond b (Some c.args.name.now) None)
    (is_cut-below zone c.args.name.now (ap (λ apex. is_under apex c.args.name.now) (sym c.apex.ensures.name) ∙ sym c.is_under.ensures ∙ c.if-is_under.false)
    ∙ ap not (is_none_of-found c.rrset.result _ c.rrset.ensures.none) ∙ ap (λ b. not (not b)) (sym c.is_some.ensures ∙ c.if-is_some.false)))
