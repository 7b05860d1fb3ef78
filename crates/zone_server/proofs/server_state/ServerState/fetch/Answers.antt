-- What is told at a ticket is so.
use Rattle.std.proofs.Common.{refl, subst}
use Rattle.std.specs.Prelude.{slice_get}
use Rattle.dns_engine.specs.Held.{EngineState}
use Rattle.zone_server.specs.UpdateResult.{IsFetched}
use Rattle.zone_server.proofs.StateLemmas.{fetched, fetched_told}
use Rattle.zone_server.proofs.server_state.ServerState.fetch.Goals as goal

pub invariant_of-self : goal.invariant_of-self
invariant_of-self g c =
    let tickets = c.self.inside.replies.tickets.items in
    (fetched g.Z.FirstZone.zone c.self.inside.engine.held.published (slice_get tickets c.args.ticket) tickets c.args.ticket c.fetch.result c.fetch.new.self.tickets.items c.fetch.ensures c.self.invariant.0, c.self.invariant.1)

pub returns-clause-reported : goal.returns-clause-reported
returns-clause-reported g c =
    let tickets = c.self.inside.replies.tickets.items in
    subst (λ (s : EngineState). IsFetched g.Z.FirstZone.zone s.held.published c.fetch.result) c.self.view_is
    (fetched_told g.Z.FirstZone.zone c.self.inside.engine.held.published (slice_get tickets c.args.ticket) tickets c.args.ticket c.fetch.result c.fetch.new.self.tickets.items refl c.fetch.ensures c.self.invariant.0)
