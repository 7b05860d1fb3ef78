-- What is told stays so, and so does what is counted.
use Rattle.zone_server.proofs.CountedLemmas.{counted_same}
use Rattle.zone_server.proofs.StateLemmas.{tickets_same}
use Rattle.zone_server.proofs.server_state.ServerState.chain.Goals as goal

pub invariant_of-self : goal.invariant_of-self
invariant_of-self g c = (
  tickets_same g.Z.FirstZone.zone c.self.inside.engine c.chain.new.self c.self.inside.replies.tickets.items c.chain.ensures.same c.self.invariant.0,
  counted_same c.self.inside.engine c.chain.new.self c.self.inside.published.total c.self.inside.reserved.total c.chain.ensures.same c.self.invariant.1,
)
