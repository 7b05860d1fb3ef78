-- A request is answered by what it is by its TSIG.
use Rattle.std.proofs.Common.{refl, ap, ◌∙◌, [], ◌∷◌, take}
use Rattle.std.specs.Option.{option_copied}
use Rattle.std.proofs.lemmas.Result.{IfOk-weaker}
use Rattle.tsig.specs.declared.verifying.Verification.TheVariants.{Silent, Malformed, BadKey, BadSig, BadTime, BadTrunc, Signed}
use Rattle.signed_replies.specs.Signed.{stamp_late, stamp_short}
use Rattle.signed_replies.specs.Stream.{AreSignedInOrder}
use Rattle.signed_replies.proofs.ConnectionLemmas.{told_at_once, told_then}
use Rattle.signed_replies.proofs.ReplyLemmas.{error_told}
use Rattle.signed_replies.proofs.connections.SignedConnections.reply_by.Goals as goal

pub returns-in-Silent-clause-reply : goal.returns-in-Silent-clause-reply
returns-in-Silent-clause-reply g c = λ made.
    let seen = g.A.Handler.seen c.args.self.now.inner c.args.self.now.asker in
    told_at_once g.K.KeyRing.keys g.K.KeyRing.rights g.A.Handler.is_reply AreSignedInOrder c.args.verified Silent c.args.now c.args.self.now.peer seen c.args.request.now [] c.in-Silent.is refl

pub returns-in-Malformed-clause-reply : goal.returns-in-Malformed-clause-reply
returns-in-Malformed-clause-reply g c = λ made.
    let seen = g.A.Handler.seen c.args.self.now.inner c.args.self.now.asker in
    told_at_once g.K.KeyRing.keys g.K.KeyRing.rights g.A.Handler.is_reply AreSignedInOrder c.args.verified Malformed c.args.now c.args.self.now.peer seen c.args.request.now
    (take c.write_error.result c.write_error.new.out ∷ []) c.in-Malformed.is (ap (λ l. l ∷ []) c.write_error.ensures.octets)

pub returns-in-BadKey-clause-reply : goal.returns-in-BadKey-clause-reply
returns-in-BadKey-clause-reply g c = λ made.
    let seen = g.A.Handler.seen c.args.self.now.inner c.args.self.now.asker in
    told_at_once g.K.KeyRing.keys g.K.KeyRing.rights g.A.Handler.is_reply AreSignedInOrder c.args.verified (BadKey c.in-BadKey.tsig) c.args.now c.args.self.now.peer seen c.args.request.now
    (take c.write_unsigned.result c.write_unsigned.new.out ∷ []) c.in-BadKey.is (ap (λ l. l ∷ []) c.write_unsigned.ensures.octets)

pub returns-in-BadSig-clause-reply : goal.returns-in-BadSig-clause-reply
returns-in-BadSig-clause-reply g c = λ made.
    let seen = g.A.Handler.seen c.args.self.now.inner c.args.self.now.asker in
    let told = c.write_unsigned-in-BadSig in
    told_at_once g.K.KeyRing.keys g.K.KeyRing.rights g.A.Handler.is_reply AreSignedInOrder c.args.verified (BadSig c.in-BadSig.tsig) c.args.now c.args.self.now.peer seen c.args.request.now
    (take told.result told.new.out ∷ []) c.in-BadSig.is (ap (λ l. l ∷ []) told.ensures.octets)

pub returns-in-BadTime-clause-reply : goal.returns-in-BadTime-clause-reply
returns-in-BadTime-clause-reply g c = λ made.
    let seen = g.A.Handler.seen c.args.self.now.inner c.args.self.now.asker in
    let tsig = c.in-BadTime.tsig in
    let told = c.write_signed in
    told_at_once g.K.KeyRing.keys g.K.KeyRing.rights g.A.Handler.is_reply AreSignedInOrder c.args.verified (BadTime tsig) c.args.now c.args.self.now.peer seen c.args.request.now _ c.in-BadTime.is
    (error_told g.K.KeyRing.keys c.keys.result.now c.args.self.now.peer.transport (option_copied c.get-key.result) tsig c.stamp_late-stamp.result (stamp_late tsig c.args.now) c.args.request.now _
    (c.one.ensures.messages told.new.out ∙ told.ensures.octets) c.get-key.ensures c.keys.ensures c.stamp_late-stamp.ensures)

pub returns-in-BadTrunc-clause-reply : goal.returns-in-BadTrunc-clause-reply
returns-in-BadTrunc-clause-reply g c = λ made.
    let seen = g.A.Handler.seen c.args.self.now.inner c.args.self.now.asker in
    let tsig = c.in-BadTrunc.tsig in
    let told = c.write_signed-in-BadTrunc in
    let found = c.get-key-in-BadTrunc in
    told_at_once g.K.KeyRing.keys g.K.KeyRing.rights g.A.Handler.is_reply AreSignedInOrder c.args.verified (BadTrunc tsig) c.args.now c.args.self.now.peer seen c.args.request.now _ c.in-BadTrunc.is
    (error_told g.K.KeyRing.keys c.keys-in-BadTrunc.result.now c.args.self.now.peer.transport (option_copied found.result) tsig c.stamp_short.result (stamp_short c.args.now) c.args.request.now _
    (c.one-in-BadTrunc.ensures.messages told.new.out ∙ told.ensures.octets) found.ensures c.keys-in-BadTrunc.ensures c.stamp_short.ensures)

pub returns-in-Signed-clause-reply : goal.returns-in-Signed-clause-reply
returns-in-Signed-clause-reply g c =
    let seen = g.A.Handler.seen c.args.self.now.inner c.args.self.now.asker in
    let later = g.A.Handler.seen c.reply_signed.new.self.inner c.args.self.now.asker in
    IfOk-weaker c.reply_signed.result _ _
    (λ reply is made. told_then g.K.KeyRing.keys g.K.KeyRing.rights g.A.Handler.is_reply AreSignedInOrder c.args.verified (Signed c.in-Signed.tsig) c.args.now c.args.self.now.peer seen later c.args.request.now _ c.in-Signed.is (is made))
    c.reply_signed.ensures.reply
