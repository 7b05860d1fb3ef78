-- Nothing that was known is forgotten, on the same connection.
use Rattle.std.proofs.Common.{◌≡◌}
use Rattle.tcp_connections.specs.Requests.{EachGrows}
use Rattle.tcp_connections.proofs.machine.prepare_next.Given as goal

abbrev pub invariant-loop-between : goal.invariant-loop-between
invariant-loop-between g l = record {
  asker : g.A.Handler.asker l.handler ≡ g.A.Handler.asker l.initial.handler;
  grows : EachGrows (g.A.Handler.seen l.handler) (g.A.Handler.seen l.initial.handler);
}
