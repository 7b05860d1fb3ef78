-- The places are as many as the entries, and they are the entries'.
use Rattle.std.proofs.Common.{◌≡◌, ◌<◌, length, Some, IfOk, ap, ◌∙◌, subst, arith}
use Rattle.std.specs.List.{slice_get}
use Rattle.snapshot_cell.specs.Tokens.{IsUpgraded}
use Rattle.weak_history.specs.History.{Entered, HistoryState}
use Rattle.weak_history.specs.Places.{placed}
use Rattle.weak_history.proofs.PlaceLemmas.{length-placed}
use Rattle.weak_history.proofs.history.History.upgrade_at.Goals as goal

pub upgrade_in-requires-clause-within : goal.upgrade_in-requires-clause-within
upgrade_in-requires-clause-within g c =
    let size : length (placed c.self.inside.places.items) ≡ length c.self.inside.places.items = length-placed c.self.inside.places.items c.self.invariant.0 in
    let held : length (placed c.self.inside.places.items) ≡ length c.args.self.now.entries = ap (λ (h : HistoryState _). length h.entries) c.self.view_is in
    let same : length c.as_mut_slice.result.now ≡ length c.self.inside.places.items = ap length c.as_mut_slice.ensures.value in
    omega (arith, size, held, same, c.requires)

pub returns-clause-upgraded : goal.returns-clause-upgraded
returns-clause-upgraded g c =
    subst (λ l. IfOk c.upgrade_in.result (λ found. (entry : Entered _) → slice_get l c.args.at ≡ Some entry → IsUpgraded c.args.reader.now c.upgrade_in.new.reader entry.version found × (0 < c.args.reader.now.left)))
    (ap placed c.as_mut_slice.ensures.value ∙ ap (λ (h : HistoryState _). h.entries) c.self.view_is) c.upgrade_in.ensures.upgraded
