-- A request is answered, or nothing changes.
use Rattle.requests.specs.Allowed.{IsReplyFrom}
use Rattle.serve_core.specs.declared.transport.Transport.TheVariants.{Tcp}
use Rattle.tcp_connections.proofs.GoingLemmas.{keeps_step}
use Rattle.tcp_connections.proofs.stream.answer_through.Goals as goal

pub returns-then-is_next-2-clause-keeps : goal.returns-then-is_next-2-clause-keeps
returns-then-is_next-2-clause-keeps g c =
    keeps_step (IsReplyFrom g.A.Handler.is_reply c.args.allowed.rules.now Tcp c.args.from) (g.A.Handler.seen c.args.handler.now (g.A.Handler.asker c.args.handler.now)) (g.A.Handler.seen c.answer-answered.new.handler (g.A.Handler.asker c.args.handler.now)) c.args.state.now c.answer-answered.new.self c.answer-answered.result
    (c.answer-answered.ensures.grows (g.A.Handler.asker c.args.handler.now)) c.answer-answered.ensures.turn c.answer-answered.ensures.same c.answer-answered.ensures.ended

pub returns-else-is_next-2-clause-keeps : goal.returns-else-is_next-2-clause-keeps
returns-else-is_next-2-clause-keeps g c =
    keeps_step (IsReplyFrom g.A.Handler.is_reply c.args.allowed.rules.now Tcp c.args.from) (g.A.Handler.seen c.args.handler.now (g.A.Handler.asker c.args.handler.now)) (g.A.Handler.seen c.answer-answered.new.handler (g.A.Handler.asker c.args.handler.now)) c.args.state.now c.answer-answered.new.self c.answer-answered.result
    (c.answer-answered.ensures.grows (g.A.Handler.asker c.args.handler.now)) c.answer-answered.ensures.turn c.answer-answered.ensures.same c.answer-answered.ensures.ended
