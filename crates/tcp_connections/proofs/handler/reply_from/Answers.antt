-- The reply to the peer that rules make of who sends the request.
use Rattle.std.proofs.Common.{ap}
use Rattle.serve_core.specs.declared.transport.Transport.TheVariants.{Tcp}
use Rattle.tcp_connections.specs.Kept.{messages_of}
use Rattle.tcp_connections.proofs.RequestLemmas.{each_as}
use Rattle.tcp_connections.proofs.ReplyFromLemmas.{reply_as, later_as}
use Rattle.tcp_connections.proofs.handler.reply_from.Goals as goal

pub returns-in-Ok-reply-clause-grows : goal.returns-in-Ok-reply-clause-grows
returns-in-Ok-reply-clause-grows g c =
    each_as (g.A.Handler.seen c.args.handler.now) (g.A.Handler.seen c.set_peer.new.self) (g.A.Handler.seen c.reply.new.self) c.set_peer.ensures.same c.reply.ensures.grows

pub returns-in-Err-reply-clause-grows : goal.returns-in-Err-reply-clause-grows
returns-in-Err-reply-clause-grows g c =
    each_as (g.A.Handler.seen c.args.handler.now) (g.A.Handler.seen c.set_peer.new.self) (g.A.Handler.seen c.reply.new.self) c.set_peer.ensures.same c.reply.ensures.grows

pub returns-in-Ok-reply-clause-reply : goal.returns-in-Ok-reply-clause-reply
returns-in-Ok-reply-clause-reply g c = λ made.
    reply_as c.args.allowed.rules.now Tcp c.args.from c.args.request.now c.in-Ok.peer (g.A.Handler.peer c.set_peer.new.self) c.in-Ok.ensures c.set_peer.ensures.other g.A.Handler.is_reply (messages_of g.M.Messages.left c.in-Ok-reply.reply c.reply.new.out) (g.A.Handler.asker c.args.handler.now) (g.A.Handler.asker c.set_peer.new.self)
    (g.A.Handler.seen c.args.handler.now) (g.A.Handler.seen c.set_peer.new.self) (g.A.Handler.seen c.reply.new.self) c.set_peer.ensures.asker c.set_peer.ensures.same (c.in-Ok-reply.ensures.reply made)

pub returns-in-Ok-reply-clause-later : goal.returns-in-Ok-reply-clause-later
returns-in-Ok-reply-clause-later g c = λ is.
    later_as c.args.allowed.rules.now Tcp c.args.from c.args.request.now c.in-Ok.peer (g.A.Handler.peer c.set_peer.new.self) c.in-Ok.ensures c.set_peer.ensures.other g.A.Handler.is_later (c.in-Ok-reply.ensures.later is)
