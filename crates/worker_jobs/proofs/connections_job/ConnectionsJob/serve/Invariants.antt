-- Turns have been taken so far.
use Rattle.std.proofs.Common.{◌≡◌}
use Rattle.tcp_connections.specs.Requests.{EachGrows}
use Rattle.requests.specs.Allowed.{IsReplyFrom}
use Rattle.serve_core.specs.declared.transport.Transport.TheVariants.{Tcp}
use Rattle.tcp_loop.specs.Steps.{Turned}
use Rattle.worker_jobs.proofs.connections_job.ConnectionsJob.serve.Given as goal

abbrev pub invariant-loop : goal.invariant-loop
invariant-loop g l = record {
  grows : EachGrows (g.A.Handler.seen l.handler) (g.A.Handler.seen l.initial.handler);
  turned : Turned g.S.Remote.origin g.S.Blocking.octets (IsReplyFrom g.A.Handler.is_reply l.initial.self.plan.allowed.rules.now Tcp) l.initial.self.plan.limits (g.A.Handler.seen l.initial.handler) l.initial.self.event_loop.connections (g.A.Handler.seen l.handler) l.self.event_loop.connections;
  number : l.self.number ≡ l.initial.self.number;
  plan : l.self.plan ≡ l.initial.self.plan;
}
