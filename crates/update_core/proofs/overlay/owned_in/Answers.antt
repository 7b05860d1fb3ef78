use Rattle.std.proofs.Common.{◌++◌, [], ◌∷◌, Option, sym, ap, ◌∙◌}
use Rattle.zone_tree.specs.Filed.{Owned}
use Rattle.update_core.specs.Overlay.{all_of}
use Rattle.update_core.proofs.OverlayLemmas.{all_so_far}
use Rattle.update_core.proofs.overlay.owned_in.Goals as goal

pub returns-in_default : goal.returns-in_default
returns-in_default c =
    let others = c.args.others.entries in
    all_so_far c.loop-owner.owned.items c.loop-owner.owner-iterator others c.loop-owner.invariant.all c.in-None.ensures.steps.0 ∙ ap (λ (l : Option Owned). all_of l others) (sym c.in_default.is ∙ c.loop-owner.invariant.last)

pub returns : goal.returns
returns c =
    let others = c.args.others.entries in
    let last = c.in-Some-last.last in
    let all = all_so_far c.loop-owner.owned.items c.loop-owner.owner-iterator others c.loop-owner.invariant.all c.in-None.ensures.steps.0 in
    c.in_ok-push-2.ensures.items ∙ (λ i. all i ++ (c.into_name-2.ensures i, last.1) ∷ []) ∙ ap (λ (l : Option Owned). all_of l others) (sym c.in-Some-last.is ∙ c.loop-owner.invariant.last)
