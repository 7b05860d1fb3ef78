-- What was answered so far still is, from the stream's beginning.
use Rattle.std.proofs.Common.{◌≡◌}
use Rattle.requests.specs.Allowed.{IsReplyFrom}
use Rattle.serve_core.specs.declared.transport.Transport.TheVariants.{Tcp}
use Rattle.tcp_connections.specs.Requests.{EachGrows}
use Rattle.tcp_connections.specs.Kept.{told_by}
use Rattle.tcp_connections.specs.StreamOctets.{Writes}
use Rattle.tcp_connections.specs.Going.{Goes}
use Rattle.tcp_connections.proofs.stream.serve_stream.Given as goal

abbrev pub invariant-loop : goal.invariant-loop
invariant-loop g l = record {
  grows : EachGrows (g.A.Handler.seen l.handler) (g.A.Handler.seen l.initial.handler);
  asker : g.A.Handler.asker l.handler ≡ g.A.Handler.asker l.initial.handler;
  goes : Goes (IsReplyFrom g.A.Handler.is_reply l.fn.allowed.rules.now Tcp l.fn.from) (g.A.Handler.seen l.initial.handler (g.A.Handler.asker l.initial.handler)) (g.S.Stream.octets l.initial.stream.inner) (g.A.Handler.seen l.handler (g.A.Handler.asker l.initial.handler)) (told_by l.state (g.S.Stream.octets l.stream.inner));
  written : Writes (g.S.Stream.octets l.initial.stream.inner) (g.S.Stream.octets l.stream.inner);
  same : l.stream.faults ≡ l.initial.stream.faults;
}
