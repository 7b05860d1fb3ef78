use Rattle.std.proofs.Common.{◌≡◌, ◌++◌, ◌∷◌, [], ◌<◌, length}
use Rattle.weak_history.specs.History.{Entered, longest_run}
use Rattle.weak_history.proofs.history.History.make_room.Given as goal

-- those that are left are as long a run with one more
abbrev pub invariant-loop-serial : goal.invariant-loop-serial
invariant-loop-serial g l =
    (l.self.size ≡ l.initial.self.size) × ((entry : Entered _) → entry.serial ≡ l.serial.0 → longest_run l.self.size (l.self.entries ++ entry ∷ []) ≡ longest_run l.initial.self.size (l.initial.self.entries ++ entry ∷ []))

abbrev pub decreases-loop-serial : goal.decreases-loop-serial
decreases-loop-serial g l = length l.self.entries
