-- What is known grows as it does by the other handler.
use Rattle.std.proofs.Common.{sym, subst}
use Rattle.zone_tree.specs.Version.{Version}
use Rattle.tcp_connections.specs.Requests.{EachGrows}
use Rattle.counted_requests.proofs.connections.CountingConnectionsHandlerCountedMessages.reply.Goals as goal

pub returns-in-Ok-clause-grows : goal.returns-in-Ok-clause-grows
returns-in-Ok-clause-grows g c = subst (λ inner. EachGrows {T = Version} (g.A.Handler.seen inner) (g.A.Handler.seen c.args.self.now.inner)) (sym c.count.ensures.inner) c.in-Ok.ensures.grows
