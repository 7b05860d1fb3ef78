-- It has looked so far.
use Rattle.std.proofs.Common.{◌≡◌}
use Rattle.requests.specs.Served.{Grows}
use Rattle.server_control.proofs.control_job.ControlJob.serve.Given as goal

abbrev pub invariant-loop : goal.invariant-loop
invariant-loop g l = record {
  grows : Grows (g.A.Handler.seen l.handler) (g.A.Handler.seen l.initial.handler);
  number : l.self.number ≡ l.initial.self.number;
}
