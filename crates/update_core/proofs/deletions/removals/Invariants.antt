use Rattle.std.proofs.Common.{◌≡◌, take, filter}
use Rattle.update_core.specs.Applied.{removals, may_go}
use Rattle.update_core.proofs.deletions.removals.Given as goal

-- the removals of the sets so far
abbrev pub invariant-loop-set : goal.invariant-loop-set
invariant-loop-set l = l.changes.items ≡ removals l.owner (filter (may_go l.zone.made l.owner) (take l.set-index l.sets))
