-- What is known on each connection grows as it does by the handler that is counted.
use Rattle.std.proofs.Common.{sym, subst}
use Rattle.zone_tree.specs.Version.{Version}
use Rattle.tcp_connections.specs.Requests.{EachGrows}
use Rattle.serve_workers.proofs.threads.serve_counting.Goals as goal

pub returns-clause-grows : goal.returns-clause-grows
returns-clause-grows g c =
    subst (λ inner. EachGrows {T = Version} (g.A.Handler.seen inner) (g.A.Handler.seen c.args.handler)) (sym c.into_inner.ensures)
    (subst (λ inner. EachGrows {T = Version} (g.A.Handler.seen c.serve-end.new.handler.inner) (g.A.Handler.seen inner)) c.new-counting.ensures c.serve-end.ensures.grows)
