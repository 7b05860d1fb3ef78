-- The peer is set, and nothing that was known is forgotten.
use Rattle.tcp_connections.proofs.RequestLemmas.{each_as}
use Rattle.tcp_connections.proofs.handler.prepare_from.Goals as goal

pub returns-clause-grows : goal.returns-clause-grows
returns-clause-grows g c =
    each_as (g.A.Handler.seen c.args.handler.now) (g.A.Handler.seen c.set_peer.new.self) (g.A.Handler.seen c.prepare.new.self) c.set_peer.ensures.same c.prepare.ensures.grows
