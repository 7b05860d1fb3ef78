-- The reply is the handler's to that peer, on that connection.
use Rattle.std.proofs.Common.{◌∙◌, subst}
use Rattle.std.proofs.lemmas.Result.{IfOk-weaker}
use Rattle.serve_core.specs.declared.peer.Peer.{Peer}
use Rattle.tcp_connections.specs.Kept.{messages_of}
use Rattle.signed_replies.proofs.ConnectionLemmas.{asked_grows, asked_by}
use Rattle.signed_replies.proofs.connections.reply_as.Goals as goal

pub returns-clause-grows : goal.returns-clause-grows
returns-clause-grows g c =
    let seen = g.A.Handler.seen in
    asked_grows (seen c.args.inner.now) (seen c.turn_to.new.self) (seen c.set_peer.new.self) (seen c.reply.new.self) c.turn_to.ensures.grows c.set_peer.ensures.same c.reply.ensures.grows

pub returns-clause-reply : goal.returns-clause-reply
returns-clause-reply g c =
    let seen = g.A.Handler.seen in
    IfOk-weaker c.reply.result _ _
    (λ reply is made. asked_by (seen c.args.inner.now) (seen c.turn_to.new.self) (seen c.set_peer.new.self) (seen c.reply.new.self) c.turn_to.ensures.grows c.set_peer.ensures.same c.reply.ensures.grows
    g.A.Handler.is_reply c.args.peer (g.A.Handler.peer c.set_peer.new.self) c.args.asker (g.A.Handler.asker c.set_peer.new.self) c.args.request.now (messages_of g.M.Messages.left reply c.reply.new.out)
    (c.set_peer.ensures.asker ∙ c.turn_to.ensures.asker) c.set_peer.ensures.other (is made))
    c.reply.ensures.reply

pub returns-clause-later : goal.returns-clause-later
returns-clause-later g c =
    IfOk-weaker c.reply.result _ _ (λ reply is later. subst (λ (p : Peer). g.A.Handler.is_later p c.args.request.now) c.set_peer.ensures.other (is later)) c.reply.ensures.later
