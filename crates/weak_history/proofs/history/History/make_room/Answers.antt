-- The oldest leaves where those that are left don't fit.
use Rattle.std.proofs.Common.{◌≡◌, ◌++◌, ◌∷◌, [], false, true, drop, ap, sym, ◌∙◌}
use Rattle.transfer_core.specs.Window.{fits}
use Rattle.weak_history.specs.History.{HistoryState, serials_in}
use Rattle.weak_history.specs.Places.{placed}
use Rattle.weak_history.proofs.PlaceLemmas.{placed_remove}
use Rattle.weak_history.proofs.HistoryLemmas.{one_leaves, run_with}
use Rattle.weak_history.proofs.history.History.make_room.Goals as goal

pub loop-serial-preserved-in-loop-serial : goal.loop-serial-preserved-in-loop-serial
loop-serial-preserved-in-loop-serial g c =
    let state = c.loop-serial.self in
    let unfit : fits state.size (serials_in state.entries ++ c.args.serial.0 ∷ []) ≡ false = sym c.has_room.ensures ∙ c.loop-serial-test.true in
    let size = ap (λ (h : HistoryState _). h.size) c.self.view_is in
    let rest : placed c.remove.new.self.items ≡ drop 1 state.entries =
    ap placed c.remove.ensures.items ∙ placed_remove c.self.inside.places.items c.self.invariant.0 ∙ ap (λ (h : HistoryState _). drop 1 h.entries) c.self.view_is in
    one_leaves c.args.self.now state c.args.serial.0 c.self.inside.size (placed c.remove.new.self.items) c.requires c.loop-serial.invariant.0 c.loop-serial.invariant.1 unfit size rest

pub returns-clause-run : goal.returns-clause-run
returns-clause-run g c =
    let state = c.loop-serial.self in
    let fit : fits state.size (serials_in state.entries ++ c.args.serial.0 ∷ []) ≡ true = sym c.has_room.ensures ∙ c.loop-serial-test.false in
    λ entry is. sym (run_with state.size c.args.serial.0 state.entries entry is fit) ∙ c.loop-serial.invariant.1 entry is
