use Rattle.std.proofs.Common.{length, IsPermutation, sym, ap, subst, ◌∙◌}
use Rattle.std.proofs.lemmas.List.Sorted.{length_permutation}
use Rattle.arrayvec.proofs.ArrayVecLemmas.{items-with_items}
use Rattle.update_core.specs.Ordered.{of_class_IN}
use Rattle.update_core.proofs.OrderedLemmas.{judged}
use Rattle.update_core.proofs.ordered.are_met_in_order.Goals as goal

-- the list has the records of class IN, in another order
pub returns : goal.returns
returns g c =
    let raws = c.args.raws.now in
    let sorted = c.as_slice.ensures.value ∙ items-with_items c.gather.new.list c.sort.new.list (length_permutation _ _ c.sort.ensures.same ∙ ap length c.as_mut_slice.ensures.value) in
    let moved = subst (λ ys. IsPermutation (of_class_IN raws) ys) (sym sorted) (subst (λ xs. IsPermutation xs c.sort.new.list) (c.as_mut_slice.ensures.value ∙ c.gather.ensures) c.sort.ensures.same) in
    judged (g.Z.ZoneRead.records c.args.zone.now) raws c.as_slice.result.now moved c.do_all_lead_on.result c.do_all_lead_on.ensures
