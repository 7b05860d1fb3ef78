-- What is told at a ticket stays so.
use Rattle.std.specs.Prelude.{slice_get}
use Rattle.zone_server.proofs.StateLemmas.{closed}
use Rattle.zone_server.proofs.server_state.ServerState.close.Goals as goal

pub invariant_of-self : goal.invariant_of-self
invariant_of-self g c =
    (closed g.Z.FirstZone.zone c.self.inside.engine.held.published (slice_get c.self.inside.replies.tickets.items c.args.ticket) c.self.inside.replies.tickets.items c.args.ticket c.close.new.self.tickets.items c.close.ensures c.self.invariant.0, c.self.invariant.1)
