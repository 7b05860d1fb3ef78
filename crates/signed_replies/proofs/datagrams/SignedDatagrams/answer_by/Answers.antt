-- A request is answered by what it is by its TSIG.
use Rattle.std.proofs.Common.{refl, ap, ◌∙◌, [], ◌∷◌, take}
use Rattle.std.specs.Option.{option_copied}
use Rattle.std.proofs.lemmas.Result.{IfOk-weaker}
use Rattle.requests.specs.Datagrams.{by_datagram}
use Rattle.requests.specs.Octets.{messages_in}
use Rattle.serve_core.specs.declared.transport.Transport.TheVariants.{Udp}
use Rattle.tsig.specs.declared.verifying.Verification.TheVariants.{Unsigned, Silent, Malformed, BadKey, BadSig, BadTime, BadTrunc, Signed}
use Rattle.signed_replies.specs.Signed.{AreSignedAlone, stamp_late, stamp_short}
use Rattle.signed_replies.proofs.ReplyLemmas.{told_at_once, told_then, error_told}
use Rattle.signed_replies.proofs.datagrams.SignedDatagrams.answer_by.Goals as goal

pub returns-in-Unsigned-clause-reply : goal.returns-in-Unsigned-clause-reply
returns-in-Unsigned-clause-reply g c =
    let seen = g.A.Handler.seen c.args.self.now.inner in
    let later = g.A.Handler.seen c.answer_with.new.inner in
    IfOk-weaker c.answer_with.result _ _
    (λ len is. told_then g.K.KeyRing.keys g.K.KeyRing.rights g.A.Handler.is_reply AreSignedAlone c.args.verified Unsigned c.args.now (by_datagram c.args.self.now.peer) seen later c.args.request.now (messages_in len c.answer_with.new.out) c.in-Unsigned.is is)
    c.answer_with.ensures.reply

pub returns-in-Silent-clause-reply : goal.returns-in-Silent-clause-reply
returns-in-Silent-clause-reply g c =
    told_at_once g.K.KeyRing.keys g.K.KeyRing.rights g.A.Handler.is_reply AreSignedAlone c.args.verified Silent c.args.now (by_datagram c.args.self.now.peer) (g.A.Handler.seen c.args.self.now.inner) c.args.request.now [] c.in-Silent.is refl

pub returns-in-Malformed-clause-reply : goal.returns-in-Malformed-clause-reply
returns-in-Malformed-clause-reply g c =
    told_at_once g.K.KeyRing.keys g.K.KeyRing.rights g.A.Handler.is_reply AreSignedAlone c.args.verified Malformed c.args.now (by_datagram c.args.self.now.peer) (g.A.Handler.seen c.args.self.now.inner) c.args.request.now
    (take c.write_error.result c.write_error.new.out ∷ []) c.in-Malformed.is (ap (λ l. l ∷ []) c.write_error.ensures.octets)

pub returns-in-BadKey-clause-reply : goal.returns-in-BadKey-clause-reply
returns-in-BadKey-clause-reply g c =
    told_at_once g.K.KeyRing.keys g.K.KeyRing.rights g.A.Handler.is_reply AreSignedAlone c.args.verified (BadKey c.in-BadKey.tsig) c.args.now (by_datagram c.args.self.now.peer) (g.A.Handler.seen c.args.self.now.inner) c.args.request.now
    (take c.write_unsigned.result c.write_unsigned.new.out ∷ []) c.in-BadKey.is (ap (λ l. l ∷ []) c.write_unsigned.ensures.octets)

pub returns-in-BadSig-clause-reply : goal.returns-in-BadSig-clause-reply
returns-in-BadSig-clause-reply g c =
    let told = c.write_unsigned-in-BadSig in
    told_at_once g.K.KeyRing.keys g.K.KeyRing.rights g.A.Handler.is_reply AreSignedAlone c.args.verified (BadSig c.in-BadSig.tsig) c.args.now (by_datagram c.args.self.now.peer) (g.A.Handler.seen c.args.self.now.inner) c.args.request.now
    (take told.result told.new.out ∷ []) c.in-BadSig.is (ap (λ l. l ∷ []) told.ensures.octets)

pub returns-in-BadTime-clause-reply : goal.returns-in-BadTime-clause-reply
returns-in-BadTime-clause-reply g c =
    let tsig = c.in-BadTime.tsig in
    let told = c.write_signed in
    told_at_once g.K.KeyRing.keys g.K.KeyRing.rights g.A.Handler.is_reply AreSignedAlone c.args.verified (BadTime tsig) c.args.now (by_datagram c.args.self.now.peer) (g.A.Handler.seen c.args.self.now.inner) c.args.request.now
    (messages_in told.result told.new.out) c.in-BadTime.is
    (error_told g.K.KeyRing.keys c.keys.result.now Udp (option_copied c.get-key.result) tsig c.stamp_late-stamp.result (stamp_late tsig c.args.now) c.args.request.now (messages_in told.result told.new.out)
    told.ensures.octets c.get-key.ensures c.keys.ensures c.stamp_late-stamp.ensures)

pub returns-in-BadTrunc-clause-reply : goal.returns-in-BadTrunc-clause-reply
returns-in-BadTrunc-clause-reply g c =
    let tsig = c.in-BadTrunc.tsig in
    let told = c.write_signed-in-BadTrunc in
    let found = c.get-key-in-BadTrunc in
    told_at_once g.K.KeyRing.keys g.K.KeyRing.rights g.A.Handler.is_reply AreSignedAlone c.args.verified (BadTrunc tsig) c.args.now (by_datagram c.args.self.now.peer) (g.A.Handler.seen c.args.self.now.inner) c.args.request.now
    (messages_in told.result told.new.out) c.in-BadTrunc.is
    (error_told g.K.KeyRing.keys c.keys-in-BadTrunc.result.now Udp (option_copied found.result) tsig c.stamp_short.result (stamp_short c.args.now) c.args.request.now (messages_in told.result told.new.out)
    told.ensures.octets found.ensures c.keys-in-BadTrunc.ensures c.stamp_short.ensures)

pub returns-in-Signed-clause-reply : goal.returns-in-Signed-clause-reply
returns-in-Signed-clause-reply g c =
    let seen = g.A.Handler.seen c.args.self.now.inner in
    let later = g.A.Handler.seen c.answer_signed.new.self.inner in
    IfOk-weaker c.answer_signed.result _ _
    (λ len is. told_then g.K.KeyRing.keys g.K.KeyRing.rights g.A.Handler.is_reply AreSignedAlone c.args.verified (Signed c.in-Signed.tsig) c.args.now (by_datagram c.args.self.now.peer) seen later c.args.request.now (messages_in len c.answer_signed.new.out) c.in-Signed.is is)
    c.answer_signed.ensures.reply
