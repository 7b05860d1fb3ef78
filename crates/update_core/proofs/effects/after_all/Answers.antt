use Rattle.std.proofs.Common.{◌≡◌, ◌≢◌, MatchBool, Some, sym, subst, ap, ◌∙◌}
use Rattle.zone_tree.specs.Zone.{IsZone}
use Rattle.update_core.proofs.AfterLemmas.{way_scanned, way_next, way_end}
use Rattle.update_core.proofs.effects.after_all.Goals as goal

pub after_one-requires : goal.after_one-requires
after_one-requires c = record { passed = way_scanned c.args.zone.now c.loop-raw.overlay.made c.args.raws.now c.loop-raw.raw-index c.raw-item.result c.loop-raw-test.true c.raw-item.is c.loop-raw.invariant.way }

pub loop-raw-preserved : goal.loop-raw-preserved
loop-raw-preserved c = record {
  base = c.in_ok-overlay.ensures.base ∙ c.loop-raw.invariant.base;
  way = way_next c.args.zone.now c.loop-raw.overlay.made c.args.raws.now c.loop-raw.raw-index c.raw-item.result c.loop-raw-test.true c.raw-item.is c.loop-raw.invariant.way
      c.in_ok-overlay.overlay.made c.in_ok-overlay.ensures.after c.in_ok-overlay.ensures.apex;
}

pub returns-then-not-is_changed-clause-after : goal.returns-then-not-is_changed-clause-after
returns-then-not-is_changed-clause-after c =
    let made = c.loop-raw.overlay.made in
    let base = c.loop-raw.overlay.base in
    let same = subst (λ b. MatchBool b (made ≢ base) (made ≡ base)) c.if-not-is_changed.true c.is_changed.ensures.changed in
    way_end c.args.zone.now made c.args.raws.now c.loop-raw.raw-index c.loop-raw-test.false c.loop-raw.invariant.way ∙ ap Some (same ∙ c.loop-raw.invariant.base)

pub returns-clause-after : goal.returns-clause-after
returns-clause-after c =
    way_end c.args.zone.now c.loop-raw.overlay.made c.args.raws.now c.loop-raw.raw-index c.loop-raw-test.false c.loop-raw.invariant.way ∙ ap Some (sym c.in_ok-after.ensures.made)

pub returns-clause-changed : goal.returns-clause-changed
returns-clause-changed c =
    let made = c.loop-raw.overlay.made in
    let base = c.loop-raw.overlay.base in
    let apart = subst (λ b. MatchBool b (made ≢ base) (made ≡ base)) c.if-not-is_changed.false c.is_changed.ensures.changed in
    (subst IsZone c.loop-raw.invariant.base c.is_changed.ensures.lawful.0, subst IsZone (sym c.in_ok-after.ensures.made) c.is_changed.ensures.lawful.1, λ e. apart (sym c.in_ok-after.ensures.made ∙ sym e ∙ sym c.loop-raw.invariant.base))
