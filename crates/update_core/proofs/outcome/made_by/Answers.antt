use Rattle.std.proofs.Common.{◌≢◌, Some, unwrap_or, sym, subst, ap, ◌∙◌}
use Rattle.std.specs.Option.{IfSome}
use Rattle.zone_tree.specs.Zone.{IsZone}
use Rattle.update_core.specs.Act.{effects}
use Rattle.update_core.proofs.AfterLemmas.{act_same, act_other, finished_other}
use Rattle.update_core.proofs.outcome.made_by.Goals as goal

pub returns-in_default-clause-next : goal.returns-in_default-clause-next
returns-in_default-clause-next c =
    let zone = c.args.zone.now in
    let does = ap (effects zone) (sym c.as_slice-raws.ensures) ∙ c.in_ok-after.ensures.after ∙ ap (λ o. Some (unwrap_or o zone)) c.in_default.is in
    act_same zone zone c.args.update.now does (λ i. zone)

pub returns-clause-next : goal.returns-clause-next
returns-clause-next c =
    let zone = c.args.zone.now in
    let after = c.in-Some.after in
    let does = ap (effects zone) (sym c.as_slice-raws.ensures) ∙ c.in_ok-after.ensures.after ∙ ap (λ o. Some (unwrap_or o zone)) c.in-Some.is in
    let other = subst (λ o. IfSome o (λ next. IsZone zone × IsZone next × (zone ≢ next))) c.in-Some.is c.in_ok-after.ensures.changed in
    (act_other zone after c.args.update.now other.0 other.1 does other.2 ∙ ap Some (sym c.in_ok-made.ensures.zone), λ e. finished_other zone after other.0 other.1 other.2 (sym c.in_ok-made.ensures.zone ∙ e), c.in_ok-made.ensures.changes)
