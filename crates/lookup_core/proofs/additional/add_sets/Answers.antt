use Rattle.std.proofs.Common.{◌∙◌, sym, ap, arith, take_all}
use Rattle.std.specs.List.{flat_map}
use Rattle.lookup_core.specs.Additional.{hosts_of, wanted_sets}
use Rattle.lookup_core.specs.Shown.{section_shown, with_more}
use Rattle.lookup_core.proofs.AdditionalLemmas.{one_step, hosts_of-data, hosts_of-sets}
use Rattle.lookup_core.proofs.additional.add_sets.Goals as goal

-- the set in hand
pub loop-set-preserved : goal.loop-set-preserved
loop-set-preserved g c =
    one_step (g.Z.ZoneRead.records c.args.zone.now) (section_shown c.args.answer.now) hosts_of c.args.additional.now c.args.sets.now c.loop-set.set-index c.set-item.result _ c.loop-set.additional c.add_data.new.additional (omega arith)
    c.loop-set.invariant (sym (hosts_of-data c.set-item.result _ _ _ c.data.result.now c.data.ensures.records c.data.ensures.lawful.typed) ∙ ap hosts_of c.set-item.is) c.add_data.ensures

-- all sets were seen
pub returns : goal.returns
returns g c =
    c.loop-set.invariant
    ∙ ap (λ hosts. with_more c.args.additional.now (wanted_sets (g.Z.ZoneRead.records c.args.zone.now) (section_shown c.args.answer.now) hosts))
    (ap (flat_map hosts_of) (take_all c.loop-set.set-index c.args.sets.now (omega arith)) ∙ sym (hosts_of-sets c.args.sets.now))
