-- The reply to the request without its TSIG, signed.
use Rattle.std.proofs.Common.{sym, ap, ◌∙◌, refl, slice_get}
use Rattle.std.specs.Option.{option_copied}
use Rattle.tcp_connections.proofs.TurnLemmas.{extends_itself}
use Rattle.tcp_connections.specs.Kept.{messages_of}
use Rattle.signed_replies.specs.Signed.{reply_limit}
use Rattle.signed_replies.specs.Stream.{AreSignedInOrder, stream_by}
use Rattle.signed_replies.proofs.ReplyLemmas.{signed_reply_none, signed_as}
use Rattle.signed_replies.proofs.connections.SignedConnections.reply_signed.Goals as goal

pub returns-in_default-clause-reply : goal.returns-in_default-clause-reply
returns-in_default-clause-reply g c = λ made.
    let peer = c.args.self.now.peer in
    let seen = g.A.Handler.seen c.args.self.now.inner c.args.self.now.asker in
    let none = ap (λ l. slice_get l c.args.tsig.key) (sym c.keys.ensures) ∙ sym c.get.ensures ∙ ap option_copied c.in_default.is in (
      seen,
      extends_itself seen,
      extends_itself seen,
      signed_reply_none g.K.KeyRing.keys g.K.KeyRing.rights g.A.Handler.is_reply AreSignedInOrder (slice_get g.K.KeyRing.keys c.args.tsig.key) c.args.now c.args.tsig peer seen seen c.args.request.now none,
    )

pub returns-clause-reply : goal.returns-clause-reply
returns-clause-reply g c = λ made.
    let peer = c.args.self.now.peer in
    let own = c.in-Ok.peer in
    let later = g.A.Handler.seen c.reply_as.new.inner c.args.self.now.asker in
    let there = ap (λ l. slice_get l c.args.tsig.key) (sym c.keys.ensures) ∙ sym c.get.ensures ∙ ap option_copied c.in-Some.is in
    let reply = c.in_ok-made.ensures.reply (λ is. made (c.signed.ensures.later.1 is)) in
    let plains = messages_of g.M.Messages.left c.in_ok-made.made c.reply_as.new.out in
    let messages = messages_of (λ s. stream_by s.signer (g.M.Messages.left s.inner)) c.signed.result c.signed.new.out in (
      reply.0,
      reply.1,
      reply.2,
      signed_as g.K.KeyRing.keys g.K.KeyRing.rights g.A.Handler.is_reply AreSignedInOrder (slice_get g.K.KeyRing.keys c.args.tsig.key) c.in-Some.key.now c.args.now c.args.tsig peer reply.0 later c.args.request.now
          c.plain-plain.result.now c.args.self.now.from own own plains messages there c.plain-plain.ensures.plain c.in-Ok.ensures refl reply.3 (c.signed.ensures.messages (reply_limit peer.transport c.plain-plain.result.now)),
    )
