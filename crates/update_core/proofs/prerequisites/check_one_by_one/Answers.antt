use Rattle.std.proofs.Common.{not, ◌||◌, ◌==◌, take, sym, ap, ◌∙◌, arith}
use Rattle.dns_rdata.specs.Raw.{RawRecord}
use Rattle.dns_rdata.specs.Numbers.{class_IN}
use Rattle.update_core.specs.Verdict.{is_met}
use Rattle.update_core.proofs.ListLemmas.{either_right}
use Rattle.update_core.proofs.VerdictLemmas.{met_before, one_more_met}
use Rattle.update_core.proofs.prerequisites.check_one_by_one.Goals as goal
use Rattle.update_core.proofs.prerequisites.check_one_by_one.Goals.{else-eq-via-then-eq+then-not-is_repeated+else-not-is_met, else-eq-via-then-eq+else-not-is_repeated, else-eq-via-else-eq}

-- the record in hand is compared: by itself, with the first of its owner and type, or not at all
pub loop-at-preserved : goal.loop-at-preserved
loop-at-preserved g c =
    let zone = g.Z.ZoneRead.records c.args.zone.now in
    let raw = c.index-raws-at.result in
    let met = is_met zone c.args.raws.now raw in
    one_more_met zone c.args.raws.now c.loop-at.at raw raw (omega arith) c.index-raws-at.is c.loop-at.invariant
    (elim c.else-eq.branch [
      | else-eq-via-then-eq+then-not-is_repeated+else-not-is_met w ↦
          either_right (not (raw.class == class_IN)) met (sym w.is_met.ensures ∙ w.if-not-is_met.false)
      | else-eq-via-then-eq+else-not-is_repeated w ↦
          either_right (not (raw.class == class_IN)) met (met_before zone c.args.raws.now (take c.loop-at.at c.args.raws.now) raw c.loop-at.invariant (sym w.is_repeated.ensures ∙ w.if-not-is_repeated.false))
      | else-eq-via-else-eq w ↦
          ap (λ b. not b || met) (ap (λ (r : RawRecord). r.class == class_IN) (sym c.raw.view_is) ∙ sym c.eq.ensures ∙ w.if-eq.false)
    ])
