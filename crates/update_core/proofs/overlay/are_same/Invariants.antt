use Rattle.std.proofs.Common.{◌≡◌, take}
use Rattle.update_core.proofs.overlay.are_same.Given as goal

-- the sets so far are the same
abbrev pub invariant-loop-at : goal.invariant-loop-at
invariant-loop-at l = take l.at l.own ≡ take l.at l.other
