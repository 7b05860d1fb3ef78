use Rattle.std.proofs.Common.{length, ap, sym, subst, ◌∙◌}
use Rattle.std.proofs.lemmas.Iterator.Adapters.{YieldsList-from_vec}
use Rattle.std.proofs.lemmas.Iterator.Consumers.{YieldsList-turn}
use Rattle.std.proofs.lemmas.List.Elements.{All-from_recursion}
use Rattle.zone_tree.specs.Edit.{AreOwn}
use Rattle.update_core.specs.Overlay.{IsChangeAt, changed_sets}
use Rattle.update_core.proofs.OwnSets.{types_rise}
use Rattle.update_core.proofs.OverlayLemmas.{own_changed, edited_sets-last}
use Rattle.update_core.proofs.own_sets.change_all.Goals as goal

pub change_sets-requires : goal.change_sets-requires
change_sets-requires c = types_rise c.args.owner.now c.loop-change.own.items c.loop-change.invariant.own

pub loop-change-preserved : goal.loop-change-preserved
loop-change-preserved c =
    let owner = c.args.owner.now in
    let all = c.args.changes.items in
    let change = c.in-Some.change in
    let from = c.into_iter-change-iterator.ensures.into_iter_gives in
    let road = YieldsList-from_vec {s = c.into_iter-change-iterator.result} all from.0 (from.1 ∙ c.args.changes.ok.0) in
    let t = YieldsList-turn road c.loop-change.yielded _ c.loop-change.yielded_by c.next.result c.next.new.self change c.in-Some.is c.next.ensures.steps in
    let at = subst (IsChangeAt owner) (sym t.1) (All-from_recursion (IsChangeAt owner) all c.requires.at (length c.loop-change.yielded) change t.0) in
    record {
      own = subst (AreOwn owner) (sym c.in_ok-change_sets.ensures) (own_changed owner c.loop-change.own.items c.loop-change.invariant.own change at);
      sets = c.in_ok-change_sets.ensures ∙ ap (λ l. changed_sets l change) c.loop-change.invariant.sets ∙ sym (edited_sets-last c.args.own.now.items c.loop-change.yielded change);
    }
