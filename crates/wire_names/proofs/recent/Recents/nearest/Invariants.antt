use Rattle.std.proofs.Common.{◌≤◌, length}
use Rattle.wire_names.proofs.recent.Recents.nearest.Given as goal

abbrev pub invariant-loop-i : goal.invariant-loop-i
invariant-loop-i l = l.most ≤ length l.octets
