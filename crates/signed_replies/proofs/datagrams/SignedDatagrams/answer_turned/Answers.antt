-- The handler has the peer, and so its reply is the one to that.
use Rattle.std.proofs.Common.{subst, IfOk}
use Rattle.std.proofs.lemmas.Result.{IfOk-weaker}
use Rattle.requests.specs.Datagrams.{by_datagram}
use Rattle.requests.specs.Octets.{messages_in}
use Rattle.requests.proofs.TurnLemmas.{grows_itself}
use Rattle.serve_core.specs.declared.peer.Peer.{Peer}
use Rattle.tsig.specs.declared.verifying.Verification.TheVariants.{Unsigned}
use Rattle.signed_replies.specs.Signed.{AreSignedAlone}
use Rattle.signed_replies.proofs.ReplyLemmas.{reply_to}
use Rattle.signed_replies.proofs.datagrams.SignedDatagrams.answer_turned.Goals as goal

pub returns-clause-reply : goal.returns-clause-reply
returns-clause-reply g c =
    let seen = g.A.Handler.seen c.args.self.now.inner in
    let later = g.A.Handler.seen c.answer.new.self in
    let own = subst (λ (p : Peer). IfOk c.answer.result (λ len. g.A.Handler.is_reply (by_datagram p) seen later c.args.request.now (messages_in len c.answer.new.out))) c.requires.turned c.answer.ensures.reply in
    IfOk-weaker c.answer.result _ _
    (λ len is. reply_to g.K.KeyRing.keys g.K.KeyRing.rights g.A.Handler.is_reply AreSignedAlone Unsigned 0 (by_datagram c.args.self.now.peer) seen later c.args.request.now (messages_in len c.answer.new.out) c.requires.unsigned (
      seen,
      grows_itself seen,
      c.answer.ensures.grows,
      is,
    ))
    own
