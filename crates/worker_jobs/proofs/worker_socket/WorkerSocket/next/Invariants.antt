-- No failure is counted meanwhile.
use Rattle.std.proofs.Common.{◌≡◌}
use Rattle.worker_jobs.proofs.worker_socket.WorkerSocket.next.Given as goal

abbrev pub invariant-loop-tried : goal.invariant-loop-tried
invariant-loop-tried g l = l.self.faults ≡ l.initial.self.faults
