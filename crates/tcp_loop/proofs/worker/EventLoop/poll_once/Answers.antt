-- The steps of a turn, one behind the other.
use Rattle.std.proofs.Common.{refl, sym, ◌∙◌, inl}
use Rattle.requests.specs.Allowed.{IsReplyFrom, IsLaterFrom}
use Rattle.serve_core.specs.declared.transport.Transport.TheVariants.{Tcp}
use Rattle.tcp_connections.proofs.RequestLemmas.{each_itself}
use Rattle.tcp_loop.proofs.StepLemmas.{serves_none, turned_none, turned_whole, going_swept}
use Rattle.tcp_loop.proofs.worker.EventLoop.poll_once.Goals as goal

pub returns-in_err-take_all-clause-turned : goal.returns-in_err-take_all-clause-turned
returns-in_err-take_all-clause-turned g c =
    let seen = g.A.Handler.seen c.args.handler.now in
    let come = c.take_all.new.self.connections in
    turned_whole g.S.Remote.origin g.S.Blocking.octets c.in-Ok.now (IsReplyFrom g.A.Handler.is_reply c.args.plan.allowed.rules.now Tcp) c.args.plan.limits (g.P.Readiness.time c.take_all.new.poll) seen seen c.args.self.now.connections c.mark.new.self.connections come come come (c.in-Ok.ensures ∙ sym c.take_all.ensures.time) c.mark.ensures.connections c.take_all.ensures.moves
    (serves_none g.S.Remote.origin g.S.Blocking.octets c.in-Ok.now (IsReplyFrom g.A.Handler.is_reply c.args.plan.allowed.rules.now Tcp) seen seen come (each_itself seen)) (inl refl)

pub returns-in_default-clause-turned : goal.returns-in_default-clause-turned
returns-in_default-clause-turned g c =
    turned_none g.S.Remote.origin g.S.Blocking.octets (g.P.Readiness.time c.wait.new.self) (IsReplyFrom g.A.Handler.is_reply c.args.plan.allowed.rules.now Tcp) c.args.plan.limits (g.A.Handler.seen c.args.handler.now) c.args.self.now.connections c.args.self.now.connections refl

pub returns-in-Err-clause-turned : goal.returns-in-Err-clause-turned
returns-in-Err-clause-turned g c =
    turned_whole g.S.Remote.origin g.S.Blocking.octets c.in-Ok.now (IsReplyFrom g.A.Handler.is_reply c.args.plan.allowed.rules.now Tcp) c.args.plan.limits (g.P.Readiness.time c.take_all.new.poll) (g.A.Handler.seen c.args.handler.now) (g.A.Handler.seen c.serve_ready-served.new.handler) c.args.self.now.connections c.mark.new.self.connections c.take_all.new.self.connections c.serve_ready-served.new.connections c.serve_ready-served.new.connections (c.in-Ok.ensures ∙ sym c.take_all.ensures.time) c.mark.ensures.connections c.take_all.ensures.moves c.serve_ready-served.ensures.own (inl refl)

pub returns-clause-turned : goal.returns-clause-turned
returns-clause-turned g c =
    turned_whole g.S.Remote.origin g.S.Blocking.octets c.in-Ok.now (IsReplyFrom g.A.Handler.is_reply c.args.plan.allowed.rules.now Tcp) c.args.plan.limits (g.P.Readiness.time c.take_all.new.poll) (g.A.Handler.seen c.args.handler.now) (g.A.Handler.seen c.serve_ready-served.new.handler) c.args.self.now.connections c.mark.new.self.connections c.take_all.new.self.connections c.serve_ready-served.new.connections c.sweep.new.self.connections (c.in-Ok.ensures ∙ sym c.take_all.ensures.time) c.mark.ensures.connections c.take_all.ensures.moves c.serve_ready-served.ensures.own c.sweep.ensures.swept

pub returns-clause-going : goal.returns-clause-going
returns-clause-going g c =
    going_swept g.S.Remote.origin g.S.Blocking.octets c.in-Ok.now g.S.Blocking.would_block (IsLaterFrom g.A.Handler.is_later c.args.plan.allowed.rules.now Tcp) c.args.plan.limits c.serve_ready-served.new.connections c.sweep.new.self.connections c.deref.result.now c.sweep.new.self.served.items c.serve_ready-served.new.next.items c.sweep.new.self.next.items (c.sweep.ensures.served ∙ sym c.deref.ensures.value) c.sweep.ensures.next c.sweep.ensures.swept c.in-Ok-served.ensures.going
