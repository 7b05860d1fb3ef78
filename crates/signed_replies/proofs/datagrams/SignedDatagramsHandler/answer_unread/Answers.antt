-- An update that there is no memory to read is answered at some time.
use Rattle.std.proofs.Common.{arith, ◌≤◌, [], ◌∷◌, length, take}
use Rattle.dns_message.specs.Message.{message_limit}
use Rattle.requests.specs.Datagrams.{by_datagram}
use Rattle.signed_replies.specs.Signed.{AreSignedAlone}
use Rattle.signed_replies.proofs.ReplyLemmas.{verified_at, reply_to}
use Rattle.signed_replies.proofs.datagrams.SignedDatagramsHandler.answer_unread.Goals as goal

pub returns-clause-reply : goal.returns-clause-reply
returns-clause-reply g c = λ asking.
    let short : length c.args.request.now ≤ message_limit = omega arith in
    let seen = g.A.Handler.seen c.args.self.now.inner in
    let later = g.A.Handler.seen c.unread_by.new.self.inner in
    let said = verified_at g.K.KeyRing.keys c.keys.result.now c.now-now.result c.args.request.now c.new-message.result c.verify-verified.result short c.new-message.ensures c.keys.ensures c.verify-verified.ensures in
    let reply = c.unread_by.ensures.reply in
    reply_to g.K.KeyRing.keys g.K.KeyRing.rights g.A.Handler.is_reply AreSignedAlone c.verify-verified.result c.now-now.result (by_datagram asking) seen later c.args.request.now (take c.unread_by.result c.unread_by.new.out ∷ []) said
    (reply.0, reply.1, reply.2, reply.3 asking)
