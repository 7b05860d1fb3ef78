use Rattle.std.proofs.Common.{◌≡◌, get_or, sym, ap, ◌∙◌, ℕ, List, Some}
use Rattle.counted_handles.specs.declared.released.Steps.TheVariants.{Buried}
use Rattle.counted_handles.specs.Shown.{Room}
use Rattle.counted_handles.proofs.released.Releasing.empty.Goals as goal

pub returns-clause-number : goal.returns-clause-number
returns-clause-number g c version lies =
    let room : c.slot_mut.result.now ≡ lies.1 = ap (λ (l : List (ℕ × Room g.row.T.Denot)). (get_or l 0 (0, lies.1)).1) (sym c.slot_mut.ensures.value ∙ (λ i. (lies.2 i).1)) in
    let found : Some c.in-Some.version ≡ Some version = sym c.in-Some.is ∙ c.replace.ensures.0 ∙ ap (λ (y : Room g.row.T.Denot). y.value) room ∙ lies.3 in
    let same : c.in-Some.version ≡ version = cc in
    ap (λ v. Buried v.number) same
