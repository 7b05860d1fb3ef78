use Rattle.std.proofs.Common.{List, length, sym, ap, subst, ◌∙◌}
use Rattle.dns_rdata.specs.Record.{Record}
use Rattle.zone_tree.specs.Zone.{KeepsRules}
use Rattle.zone_tree.specs.Edit.{with_owners}
use Rattle.update_core.specs.Overlay.{Overlaid, AllOwn}
use Rattle.update_core.proofs.OverlayLemmas.{all_of_own, all_made}
use Rattle.update_core.proofs.overlay.Overlay.into_zone.Goals as goal

pub edit_owners-requires-clause-each : goal.edit_owners-requires-clause-each
edit_owners-requires-clause-each c =
    let h = c.self.invariant in
    subst AllOwn (sym c.in_ok-owned.ensures) (all_of_own c.self.inside.last c.self.inside.others.entries h.own h.each)

pub edit_owners-requires-clause-rules : goal.edit_owners-requires-clause-rules
edit_owners-requires-clause-rules c =
    let base = c.self.inside.zone.now in
    let is = ap (with_owners base) c.in_ok-owned.ensures ∙ all_made base c.self.inside.last c.self.inside.others.entries in
    subst (λ (z : List Record). KeepsRules z) (sym is) c.self.invariant.lawful.rules

pub edit_owners-requires-clause-counted : goal.edit_owners-requires-clause-counted
edit_owners-requires-clause-counted c =
    let base = c.self.inside.zone.now in
    let is = ap (with_owners base) c.in_ok-owned.ensures ∙ all_made base c.self.inside.last c.self.inside.others.entries in
    c.self.invariant.counted ∙ ap length (sym is)

pub returns-clause-made : goal.returns-clause-made
returns-clause-made c =
    let base = c.self.inside.zone.now in
    let is = ap (with_owners base) c.in_ok-owned.ensures ∙ all_made base c.self.inside.last c.self.inside.others.entries in
    c.in_ok-made.ensures.edited.0 ∙ is ∙ ap (λ (v : Overlaid). v.made) c.self.view_is
