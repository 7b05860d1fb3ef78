use Rattle.std.proofs.Common.{◌≡◌, ◌<◌, ◌+◌, ◌^◌, ◌++◌, ◌∷◌, [], drop}
use Rattle.transfer_core.specs.Window.{span}
use Rattle.weak_history.specs.History.{serials_in, span_in}
use Rattle.weak_history.proofs.history.History.spans_less_than_half.Given as goal

-- with the way from here on, it is the whole way
abbrev pub invariant-loop-at : goal.invariant-loop-at
invariant-loop-at g l =
    (l.sum < 2 ^ 31) × (l.sum + span l.last.0 (serials_in (drop l.at l.self.entries) ++ l.serial.0 ∷ []) ≡ span_in (serials_in l.self.entries ++ l.serial.0 ∷ []))
