-- A request is answered at the clock's time, by what it is by its TSIG then.
use Rattle.std.proofs.lemmas.Result.{IfOk-weaker}
use Rattle.requests.specs.Datagrams.{by_datagram}
use Rattle.requests.specs.Octets.{messages_in}
use Rattle.signed_replies.specs.Signed.{AreSignedAlone}
use Rattle.signed_replies.proofs.ReplyLemmas.{verified_at, reply_to}
use Rattle.signed_replies.proofs.datagrams.SignedDatagrams.answer_verified.Goals as goal

pub returns-clause-reply : goal.returns-clause-reply
returns-clause-reply g c =
    let seen = g.A.Handler.seen c.args.self.now.inner in
    let later = g.A.Handler.seen c.answer_by.new.self.inner in
    IfOk-weaker c.answer_by.result _ _
    (λ len is. reply_to g.K.KeyRing.keys g.K.KeyRing.rights g.A.Handler.is_reply AreSignedAlone c.verify-verified.result c.now-now.result (by_datagram c.args.self.now.peer) seen later c.args.request.now (messages_in len c.answer_by.new.out)
    (verified_at g.K.KeyRing.keys c.keys.result.now c.now-now.result c.args.request.now c.args.message.now c.verify-verified.result c.requires.short c.requires.message c.keys.ensures c.verify-verified.ensures) is)
    c.answer_by.ensures.reply
