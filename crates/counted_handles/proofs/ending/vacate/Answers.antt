use Rattle.std.proofs.Common.{◌≡◌, get_or, sym, ap, ◌∙◌, ℕ, List}
use Rattle.counted_handles.specs.Shown.{Room}
use Rattle.counted_handles.proofs.ending.vacate.Goals as goal

pub returns-clause-version : goal.returns-clause-version
returns-clause-version g c p out =
    let room : c.slot_mut.result.now ≡ out.room = ap (λ (l : List (ℕ × Room g.row.T.Denot)). (get_or l 0 (0, out.room)).1) (sym c.slot_mut.ensures.value ∙ (λ i. (out.me_is i).1)) in
    (out.version, c.replace.ensures.0 ∙ ap (λ (y : Room g.row.T.Denot). y.value) room ∙ out.holds_it, out.last)
