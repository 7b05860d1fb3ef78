-- A request without a TSIG gets the handler's reply.
use Rattle.std.proofs.Common.{subst}
use Rattle.std.proofs.lemmas.Result.{IfOk-weaker}
use Rattle.requests.specs.Datagrams.{by_datagram}
use Rattle.requests.specs.Octets.{messages_in}
use Rattle.requests.proofs.TurnLemmas.{grows_more}
use Rattle.serve_core.specs.declared.peer.Peer.{Peer}
use Rattle.tsig.specs.declared.verifying.Verification.TheVariants.{Unsigned}
use Rattle.signed_replies.specs.Signed.{AreSignedAlone}
use Rattle.signed_replies.proofs.ReplyLemmas.{reply_to}
use Rattle.signed_replies.proofs.datagrams.SignedDatagrams.answer_plain.Goals as goal

pub returns-clause-grows : goal.returns-clause-grows
returns-clause-grows g c = grows_more _ _ _ c.forget_tsig.ensures.grows c.answer_as.ensures.grows

pub returns-clause-reply : goal.returns-clause-reply
returns-clause-reply g c =
    let seen = g.A.Handler.seen c.args.self.now.inner in
    let later = g.A.Handler.seen c.answer_as.new.inner in
    IfOk-weaker c.answer_as.result _ _
    (λ len is. reply_to g.K.KeyRing.keys g.K.KeyRing.rights g.A.Handler.is_reply AreSignedAlone Unsigned 0 (by_datagram c.args.self.now.peer) seen later c.args.request.now (messages_in len c.answer_as.new.out) c.requires.unsigned (
      is.0,
      grows_more _ _ _ c.forget_tsig.ensures.grows is.1,
      is.2,
      subst (λ (p : Peer). g.A.Handler.is_reply (by_datagram p) is.0 later c.args.request.now (messages_in len c.answer_as.new.out)) c.forget_tsig.ensures.same is.3,
    ))
    c.answer_as.ensures.reply
