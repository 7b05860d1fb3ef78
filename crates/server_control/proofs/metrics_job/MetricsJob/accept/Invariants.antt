-- Clients have been accepted so far.
use Rattle.std.proofs.Common.{◌≡◌}
use Rattle.server_control.proofs.metrics_job.MetricsJob.accept.Given as goal

abbrev pub invariant-loop : goal.invariant-loop
invariant-loop g l = l.self.number ≡ l.initial.self.number
