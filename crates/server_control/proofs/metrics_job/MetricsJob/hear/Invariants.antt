-- Clients have been heard so far.
use Rattle.std.proofs.Common.{◌≡◌}
use Rattle.requests.specs.Served.{Grows}
use Rattle.server_control.proofs.metrics_job.MetricsJob.hear.Given as goal

abbrev pub invariant-loop-at : goal.invariant-loop-at
invariant-loop-at g l = record {
  grows : Grows (g.A.Handler.seen l.handler) (g.A.Handler.seen l.initial.handler);
  number : l.self.number ≡ l.initial.self.number;
}
