-- What was answered so far still is.
use Rattle.std.proofs.Common.{◌≡◌}
use Rattle.requests.specs.Allowed.{IsReplyFrom}
use Rattle.serve_core.specs.declared.transport.Transport.TheVariants.{Tcp}
use Rattle.tcp_connections.specs.Requests.{EachGrows}
use Rattle.tcp_connections.specs.Going.{Keeps}
use Rattle.tcp_connections.proofs.serve.answer_some.Given as goal

abbrev pub invariant-loop-answered : goal.invariant-loop-answered
invariant-loop-answered g l = record {
  grows : EachGrows (g.A.Handler.seen l.handler) (g.A.Handler.seen l.initial.handler);
  asker : g.A.Handler.asker l.handler ≡ g.A.Handler.asker l.initial.handler;
  keeps : Keeps (IsReplyFrom g.A.Handler.is_reply l.fn.allowed.rules.now Tcp l.fn.from) (g.A.Handler.seen l.initial.handler (g.A.Handler.asker l.initial.handler)) l.initial.state (g.A.Handler.seen l.handler (g.A.Handler.asker l.initial.handler)) l.state;
}
