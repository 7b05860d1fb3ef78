-- One turn more has been taken.
use Rattle.std.proofs.Common.{refl, ◌∙◌, subst}
use Rattle.tcp_connections.proofs.RequestLemmas.{each_itself, each_more}
use Rattle.requests.specs.Allowed.{IsReplyFrom}
use Rattle.serve_core.specs.declared.transport.Transport.TheVariants.{Tcp}
use Rattle.tcp_loop.specs.Steps.{Turned, unturned}
use Rattle.tcp_loop.specs.declared.worker.Plan.{Plan}
use Rattle.worker_jobs.proofs.TurnedLemmas.{turned_more}
use Rattle.worker_jobs.proofs.connections_job.ConnectionsJob.serve.Goals as goal

pub loop-init : goal.loop-init
loop-init g c = record { grows = each_itself _; turned = unturned; number = refl; plan = refl }

pub loop-preserved : goal.loop-preserved
loop-preserved g c =
    let turned = subst
    (λ (p : Plan). Turned g.S.Remote.origin g.S.Blocking.octets (IsReplyFrom g.A.Handler.is_reply p.allowed.rules.now Tcp) p.limits (g.A.Handler.seen c.loop.handler) c.loop.self.event_loop.connections (g.A.Handler.seen c.turn.new.handler) c.turn.new.self.event_loop.connections)
    c.loop.invariant.plan
    c.turn.ensures.turned in record {
      grows = each_more _ _ _ c.loop.invariant.grows c.turn.ensures.grows;
      turned = turned_more _ _ _ _ _ _ _ _ _ _ c.loop.invariant.turned turned;
      number = c.turn.ensures.number ∙ c.loop.invariant.number;
      plan = c.turn.ensures.plan ∙ c.loop.invariant.plan;
    }

pub returns-in-Some-turn-clause-grows : goal.returns-in-Some-turn-clause-grows
returns-in-Some-turn-clause-grows g c = each_more _ _ _ c.loop.invariant.grows c.turn.ensures.grows

pub returns-in-Some-turn-clause-turned : goal.returns-in-Some-turn-clause-turned
returns-in-Some-turn-clause-turned g c =
    let turned = subst
    (λ (p : Plan). Turned g.S.Remote.origin g.S.Blocking.octets (IsReplyFrom g.A.Handler.is_reply p.allowed.rules.now Tcp) p.limits (g.A.Handler.seen c.loop.handler) c.loop.self.event_loop.connections (g.A.Handler.seen c.turn.new.handler) c.turn.new.self.event_loop.connections)
    c.loop.invariant.plan
    c.turn.ensures.turned in
    turned_more _ _ _ _ _ _ _ _ _ _ c.loop.invariant.turned turned
