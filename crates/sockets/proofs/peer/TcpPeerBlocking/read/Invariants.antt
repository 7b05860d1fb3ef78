-- Nothing is counted so far.
use Rattle.std.proofs.Common.{◌≡◌}
use Rattle.sockets.proofs.peer.TcpPeerBlocking.read.Given as goal

abbrev pub invariant-loop-again : goal.invariant-loop-again
invariant-loop-again l = l.self.faults ≡ l.initial.self.faults
