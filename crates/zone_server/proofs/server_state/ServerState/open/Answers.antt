-- What is told at a ticket stays so.
use Rattle.zone_server.proofs.StateLemmas.{opened}
use Rattle.zone_server.proofs.server_state.ServerState.open.Goals as goal

pub invariant_of-self : goal.invariant_of-self
invariant_of-self g c =
    (opened g.Z.FirstZone.zone c.self.inside.engine.held.published c.self.inside.replies.tickets.items c.open.result c.open.new.self.tickets.items c.open.ensures c.self.invariant.0, c.self.invariant.1)
