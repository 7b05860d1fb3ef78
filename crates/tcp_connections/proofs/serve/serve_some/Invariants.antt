-- What was answered so far still is.
use Rattle.std.proofs.Common.{◌≡◌}
use Rattle.requests.specs.Allowed.{IsReplyFrom}
use Rattle.serve_core.specs.declared.transport.Transport.TheVariants.{Tcp}
use Rattle.tcp_connections.specs.Requests.{EachGrows}
use Rattle.tcp_connections.specs.Kept.{told_by}
use Rattle.tcp_connections.specs.StreamOctets.{Writes}
use Rattle.tcp_connections.specs.Going.{Goes}
use Rattle.tcp_connections.proofs.serve.serve_some.Given as goal

abbrev pub invariant-loop-turned : goal.invariant-loop-turned
invariant-loop-turned g l = record {
  grows : EachGrows (g.A.Handler.seen l.handler) (g.A.Handler.seen l.initial.handler);
  asker : g.A.Handler.asker l.handler ≡ g.A.Handler.asker l.initial.handler;
  goes : Goes (IsReplyFrom g.A.Handler.is_reply l.fn.allowed.rules.now Tcp l.fn.from) (g.A.Handler.seen l.initial.handler (g.A.Handler.asker l.initial.handler)) (told_by l.initial.state (g.S.Blocking.octets l.initial.stream)) (g.A.Handler.seen l.handler (g.A.Handler.asker l.initial.handler)) (told_by l.state (g.S.Blocking.octets l.stream));
  written : Writes (g.S.Blocking.octets l.initial.stream) (g.S.Blocking.octets l.stream);
  same : g.S.Blocking.faults l.stream ≡ g.S.Blocking.faults l.initial.stream;
}
