use Rattle.std.proofs.Common.{◌≡◌, ◌≤◌, None, drop, length}
use Rattle.weak_history.specs.History.{later_entries}
use Rattle.weak_history.proofs.history.History.place_after.Given as goal

-- from here on no entry is met
abbrev pub invariant-loop-at : goal.invariant-loop-at
invariant-loop-at g l = (l.at ≤ length l.self.entries) × (later_entries l.from.0 l.upto (drop l.at l.self.entries) ≡ None)

abbrev pub decreases-loop-at : goal.decreases-loop-at
decreases-loop-at g l = l.at
