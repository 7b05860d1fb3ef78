use Rattle.std.proofs.Common.{◌∙◌, [], ◌∷◌, sym, ap, arith, option_to_list}
use Rattle.dns_rdata.specs.Data.{Data}
use Rattle.lookup_core.specs.Additional.{hosts_in}
use Rattle.lookup_core.specs.Shown.{section_shown}
use Rattle.lookup_core.proofs.AdditionalLemmas.{one_step, nothing_more}
use Rattle.lookup_core.proofs.additional.add_data.Goals as goal
use Rattle.lookup_core.proofs.additional.add_data.Goals.{in-Some, in_default}

-- the data in hand has a name, or it has none
pub loop-rdata-preserved : goal.loop-rdata-preserved
loop-rdata-preserved g c =
    let zone = g.Z.ZoneRead.records c.args.zone.now in
    let f = λ (d : Data). hosts_in d.rtype d.octets in
    elim c.match-host_in.branch [
      | in-Some w ↦
          one_step zone (section_shown c.args.answer.now) f c.args.additional.now c.args.all.now c.loop-rdata.rdata-index c.rdata-item.result (w.in-Some.host ∷ []) c.loop-rdata.additional c.match-host_in.additional (omega arith)
          c.loop-rdata.invariant (ap option_to_list (sym w.in-Some.is) ∙ c.host_in.ensures ∙ ap f c.rdata-item.is) (w.additional-is ∙ w.add_addresses.ensures)
      | in_default w ↦
          one_step zone (section_shown c.args.answer.now) f c.args.additional.now c.args.all.now c.loop-rdata.rdata-index c.rdata-item.result [] c.loop-rdata.additional c.match-host_in.additional (omega arith)
          c.loop-rdata.invariant (ap option_to_list (sym w.in_default.is) ∙ c.host_in.ensures ∙ ap f c.rdata-item.is) (w.additional-is ∙ nothing_more zone (section_shown c.args.answer.now) c.loop-rdata.additional)
    ]
