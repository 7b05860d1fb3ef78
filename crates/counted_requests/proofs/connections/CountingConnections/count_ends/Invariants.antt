-- The other handler is as it was.
use Rattle.std.proofs.Common.{◌≡◌}
use Rattle.counted_requests.proofs.connections.CountingConnections.count_ends.Given as goal

abbrev pub invariant-loop-reason : goal.invariant-loop-reason
invariant-loop-reason g l = l.self.inner ≡ l.initial.self.inner
