-- A result that holds is put at its ticket.
use Rattle.std.proofs.Common.{sym, subst}
use Rattle.std.specs.Prelude.{slice_get}
use Rattle.dns_engine.specs.Held.{EngineState}
use Rattle.zone_server.specs.UpdateResult.{IsDone}
use Rattle.zone_server.proofs.StateLemmas.{told_at}
use Rattle.zone_server.proofs.server_state.ServerState.put_result.Goals as goal

pub invariant_of-self : goal.invariant_of-self
invariant_of-self g c =
    let tickets = c.self.inside.replies.tickets.items in (
      told_at g.Z.FirstZone.zone c.self.inside.engine.held.published (slice_get tickets c.in-Connection.ticket) tickets c.in-Connection.ticket c.args.one.done c.tell-at.new.self.tickets.items c.tell-at.ensures.reported
          (subst (λ (s : EngineState). IsDone g.Z.FirstZone.zone s.held.published c.args.one.done) (sym c.self.view_is) c.requires) c.self.invariant.0,
      c.self.invariant.1,
    )
