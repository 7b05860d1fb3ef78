use Rattle.std.proofs.Common.{◌∙◌, sym, ap, arith, take_all}
use Rattle.std.specs.List.{flat_map}
use Rattle.dns_rdata.specs.declared.shown.Shown.{Shown}
use Rattle.lookup_core.specs.Additional.{hosts_of, wanted_sets}
use Rattle.lookup_core.specs.Shown.{section_shown, with_more}
use Rattle.lookup_core.proofs.AdditionalLemmas.{one_step, hosts_of-section}
use Rattle.lookup_core.proofs.additional.add_section.Goals as goal

-- the entry in hand
pub loop-shown-preserved : goal.loop-shown-preserved
loop-shown-preserved g c =
    let f = λ (shown : Shown). hosts_of (flat_map (λ set. set) shown.sets.now) in
    one_step (g.Z.ZoneRead.records c.args.zone.now) (section_shown c.args.answer.now) f c.args.additional.now c.args.section.now c.loop-shown.shown-index c.shown-item.result _ c.loop-shown.additional c.add_sets.new.additional (omega arith)
    c.loop-shown.invariant (ap f c.shown-item.is) c.add_sets.ensures

-- all entries were seen
pub returns : goal.returns
returns g c =
    let f = λ (shown : Shown). hosts_of (flat_map (λ set. set) shown.sets.now) in
    c.loop-shown.invariant
    ∙ ap (λ hosts. with_more c.args.additional.now (wanted_sets (g.Z.ZoneRead.records c.args.zone.now) (section_shown c.args.answer.now) hosts))
    (ap (flat_map f) (take_all c.loop-shown.shown-index c.args.section.now (omega arith)) ∙ sym (hosts_of-section c.args.section.now))
