use Rattle.std.proofs.Common.{◌≤◌, length}
use Rattle.wire_names.proofs.recent.same_behind.Given as goal

abbrev pub invariant-loop-front : goal.invariant-loop-front
invariant-loop-front l = length l.rest ≤ length l.octets

abbrev pub decreases-loop-front : goal.decreases-loop-front
decreases-loop-front l = length l.rest
