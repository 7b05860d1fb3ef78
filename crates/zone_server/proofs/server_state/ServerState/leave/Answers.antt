-- What is told at a ticket stays so.
use Rattle.std.specs.Prelude.{slice_get}
use Rattle.zone_server.proofs.StateLemmas.{left}
use Rattle.zone_server.proofs.server_state.ServerState.leave.Goals as goal

pub invariant_of-self : goal.invariant_of-self
invariant_of-self g c =
    (left g.Z.FirstZone.zone c.self.inside.engine.held.published (slice_get c.self.inside.replies.tickets.items c.args.ticket) c.self.inside.replies.tickets.items c.args.ticket c.leave.new.self.tickets.items c.leave.ensures c.self.invariant.0, c.self.invariant.1)
