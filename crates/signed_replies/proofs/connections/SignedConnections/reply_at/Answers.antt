-- A request is answered at some time.
use Rattle.std.proofs.Common.{subst}
use Rattle.tsig.specs.declared.verifying.Verification.{Verification}
use Rattle.signed_replies.specs.Signed.{IsLaterBy}
use Rattle.signed_replies.specs.Stream.{AreSignedInOrder}
use Rattle.signed_replies.proofs.ConnectionLemmas.{reply_to}
use Rattle.signed_replies.proofs.connections.SignedConnections.reply_at.Goals as goal

pub returns-clause-reply : goal.returns-clause-reply
returns-clause-reply g c = λ made.
    let seen = g.A.Handler.seen c.args.self.now.inner c.args.self.now.asker in
    let later = g.A.Handler.seen c.reply_by.new.self.inner c.args.self.now.asker in
    reply_to g.K.KeyRing.keys g.K.KeyRing.rights g.A.Handler.is_reply AreSignedInOrder c.args.verified c.args.now c.args.self.now.peer seen later c.args.request.now _ c.requires.verified (c.in_ok-made.ensures.reply made)

pub returns-clause-later : goal.returns-clause-later
returns-clause-later g c = λ is.
    (c.args.now, subst (λ (v : Verification). IsLaterBy g.K.KeyRing.keys g.K.KeyRing.rights g.A.Handler.is_later v c.args.self.now.peer c.args.request.now) c.requires.verified (c.in_ok-made.ensures.later is))
