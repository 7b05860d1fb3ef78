-- What is told stays so as more is published, and is counted.
use Rattle.std.proofs.Common.{subst}
use Rattle.dns_engine.specs.Held.{EngineState}
use Rattle.dns_engine.specs.Outcomes.{IsTold}
use Rattle.zone_server.proofs.CountedLemmas.{counted_told}
use Rattle.zone_server.proofs.StateLemmas.{tickets_updated}
use Rattle.zone_server.proofs.server_state.ServerState.update_by.Goals as goal

pub invariant_of-self : goal.invariant_of-self
invariant_of-self g c =
    let first = g.Z.FirstZone.zone in
    let old = c.self.inside.engine in
    let new = c.update-code.new.self in (
      tickets_updated first old new c.args.update.now c.args.may c.update-code.result c.self.inside.replies.tickets.items c.update-code.ensures.reported c.learn_latest.ensures.latest c.self.invariant.0,
      counted_told first old new c.args.update.now c.args.may c.update-code.result c.number-before.result c.number-after.result c.self.inside.published.total c.self.inside.reserved.total c.add.new.self.total c.release.new.reserved.total
          c.update-code.ensures.reported c.number-before.ensures.latest c.number-after.ensures.latest c.number-before.ensures.number c.number-after.ensures.number c.add.ensures.total c.release.ensures.total c.self.invariant.1,
    )

pub returns : goal.returns
returns g c = subst (λ (s : EngineState). IsTold s c.args.update.now c.args.may c.update-code.result c.update-code.new.self) c.self.view_is c.update-code.ensures.reported
