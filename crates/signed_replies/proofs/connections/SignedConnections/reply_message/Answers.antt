-- A request without a TSIG is answered at time 0.
use Rattle.std.proofs.Common.{subst}
use Rattle.std.proofs.lemmas.Result.{IfOk-weaker}
use Rattle.tsig.specs.declared.verifying.Verification.{Verification}
use Rattle.tsig.specs.declared.verifying.Verification.TheVariants.{Unsigned}
use Rattle.signed_replies.specs.Signed.{IsLaterBy}
use Rattle.signed_replies.specs.Stream.{AreSignedInOrder}
use Rattle.signed_replies.proofs.ConnectionLemmas.{reply_to}
use Rattle.signed_replies.proofs.ReplyLemmas.{unsigned_at}
use Rattle.signed_replies.proofs.connections.SignedConnections.reply_message.Goals as goal

pub reply_by-requires-clause-verified : goal.reply_by-requires-clause-verified
reply_by-requires-clause-verified g c = unsigned_at g.K.KeyRing.keys 0 c.args.request.now c.args.message.now c.requires.short c.requires.same c.if-is_unsigned.ensures

pub returns-then-is_unsigned-clause-reply : goal.returns-then-is_unsigned-clause-reply
returns-then-is_unsigned-clause-reply g c =
    let seen = g.A.Handler.seen c.args.self.now.inner c.args.self.now.asker in
    let later = g.A.Handler.seen c.reply_by.new.self.inner c.args.self.now.asker in
    let said = unsigned_at g.K.KeyRing.keys 0 c.args.request.now c.args.message.now c.requires.short c.requires.same c.if-is_unsigned.ensures in
    IfOk-weaker c.reply_by.result _ _
    (λ reply is made. reply_to g.K.KeyRing.keys g.K.KeyRing.rights g.A.Handler.is_reply AreSignedInOrder Unsigned 0 c.args.self.now.peer seen later c.args.request.now _ said (is made))
    c.reply_by.ensures.reply

pub returns-then-is_unsigned-clause-later : goal.returns-then-is_unsigned-clause-later
returns-then-is_unsigned-clause-later g c =
    let said = unsigned_at g.K.KeyRing.keys 0 c.args.request.now c.args.message.now c.requires.short c.requires.same c.if-is_unsigned.ensures in
    IfOk-weaker c.reply_by.result _ _
    (λ reply is later. (0, subst (λ (v : Verification). IsLaterBy g.K.KeyRing.keys g.K.KeyRing.rights g.A.Handler.is_later v c.args.self.now.peer c.args.request.now) said (is later)))
    c.reply_by.ensures.later
