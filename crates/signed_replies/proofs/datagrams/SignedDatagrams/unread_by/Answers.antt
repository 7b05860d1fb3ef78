-- An update that there is no memory to read is answered by what it is by its TSIG, whoever sends it.
use Rattle.std.proofs.Common.{sym, refl, ap, subst, ◌∙◌, ℕ, List, [], ◌∷◌, take, slice_get}
use Rattle.std.specs.Option.{option_copied}
use Rattle.dns_message.specs.Request.{IsWant}
use Rattle.dns_message.specs.declared.query.Parsed.TheVariants.{NoMemory}
use Rattle.requests.specs.Datagrams.{by_datagram}
use Rattle.requests.specs.Octets.{messages_in}
use Rattle.requests.proofs.PeerLemmas.{peer_at, is_peer_at}
use Rattle.requests.proofs.TurnLemmas.{grows_itself}
use Rattle.serve_core.specs.declared.transport.Transport.TheVariants.{Udp}
use Rattle.tsig.specs.declared.verifying.Verification.TheVariants.{Malformed, BadKey, BadSig, BadTime, BadTrunc, Signed}
use Rattle.signed_replies.specs.Rights.{rules_of}
use Rattle.signed_replies.specs.Signed.{AreSignedAlone, reply_limit, stamp_late, stamp_short}
use Rattle.signed_replies.proofs.ReplyLemmas.{told_to_all, error_told, signed_as, one_alone}
use Rattle.signed_replies.proofs.datagrams.SignedDatagrams.unread_by.Goals as goal

pub answer_unread-len-requires-clause-wanted : goal.answer_unread-len-requires-clause-wanted
answer_unread-len-requires-clause-wanted g c = subst (λ (l : List ℕ). IsWant l (NoMemory c.args.head)) (sym c.plain-plain.ensures.plain) (c.plain-plain.ensures.wants c.args.head c.requires.wanted)

pub returns-in-Malformed-clause-reply : goal.returns-in-Malformed-clause-reply
returns-in-Malformed-clause-reply g c =
    let seen = g.A.Handler.seen c.args.self.now.inner in
    told_to_all g.K.KeyRing.keys g.K.KeyRing.rights g.A.Handler.is_reply AreSignedAlone c.args.verified Malformed c.args.now seen seen c.args.request.now
    (take c.write_error.result c.write_error.new.out ∷ []) c.in-Malformed.is (grows_itself seen) (λ asking. ap (λ l. l ∷ []) c.write_error.ensures.octets)

pub returns-in-BadKey-clause-reply : goal.returns-in-BadKey-clause-reply
returns-in-BadKey-clause-reply g c =
    let seen = g.A.Handler.seen c.args.self.now.inner in
    told_to_all g.K.KeyRing.keys g.K.KeyRing.rights g.A.Handler.is_reply AreSignedAlone c.args.verified (BadKey c.in-BadKey.tsig) c.args.now seen seen c.args.request.now
    (take c.write_unsigned.result c.write_unsigned.new.out ∷ []) c.in-BadKey.is (grows_itself seen) (λ asking. ap (λ l. l ∷ []) c.write_unsigned.ensures.octets)

pub returns-in-BadSig-clause-reply : goal.returns-in-BadSig-clause-reply
returns-in-BadSig-clause-reply g c =
    let seen = g.A.Handler.seen c.args.self.now.inner in
    let told = c.write_unsigned-in-BadSig in
    told_to_all g.K.KeyRing.keys g.K.KeyRing.rights g.A.Handler.is_reply AreSignedAlone c.args.verified (BadSig c.in-BadSig.tsig) c.args.now seen seen c.args.request.now
    (take told.result told.new.out ∷ []) c.in-BadSig.is (grows_itself seen) (λ asking. ap (λ l. l ∷ []) told.ensures.octets)

pub returns-in-BadTime-clause-reply : goal.returns-in-BadTime-clause-reply
returns-in-BadTime-clause-reply g c =
    let seen = g.A.Handler.seen c.args.self.now.inner in
    let tsig = c.in-BadTime.tsig in
    let told = c.write_signed in
    let sent = take c.unwrap.result told.new.out ∷ [] in
    told_to_all g.K.KeyRing.keys g.K.KeyRing.rights g.A.Handler.is_reply AreSignedAlone c.args.verified (BadTime tsig) c.args.now seen seen c.args.request.now sent c.in-BadTime.is (grows_itself seen)
    (λ asking. error_told g.K.KeyRing.keys c.keys.result.now Udp (option_copied c.get-key.result) tsig c.stamp_late-stamp.result (stamp_late tsig c.args.now) c.args.request.now sent
    (ap (λ o. messages_in o told.new.out) (sym c.unwrap.ensures) ∙ told.ensures.octets) c.get-key.ensures c.keys.ensures c.stamp_late-stamp.ensures)

pub returns-in-BadTrunc-clause-reply : goal.returns-in-BadTrunc-clause-reply
returns-in-BadTrunc-clause-reply g c =
    let seen = g.A.Handler.seen c.args.self.now.inner in
    let tsig = c.in-BadTrunc.tsig in
    let told = c.write_signed-in-BadTrunc in
    let found = c.get-key-in-BadTrunc in
    let sent = take c.unwrap-in-BadTrunc.result told.new.out ∷ [] in
    told_to_all g.K.KeyRing.keys g.K.KeyRing.rights g.A.Handler.is_reply AreSignedAlone c.args.verified (BadTrunc tsig) c.args.now seen seen c.args.request.now sent c.in-BadTrunc.is (grows_itself seen)
    (λ asking. error_told g.K.KeyRing.keys c.keys-in-BadTrunc.result.now Udp (option_copied found.result) tsig c.stamp_short.result (stamp_short c.args.now) c.args.request.now sent
    (ap (λ o. messages_in o told.new.out) (sym c.unwrap-in-BadTrunc.ensures) ∙ told.ensures.octets) found.ensures c.keys-in-BadTrunc.ensures c.stamp_short.ensures)

pub returns-in-Some-clause-reply : goal.returns-in-Some-clause-reply
returns-in-Some-clause-reply g c =
    let tsig = c.in-Signed.tsig in
    let plain = c.plain-plain.result.now in
    let rules = rules_of g.K.KeyRing.rights tsig.key in
    let own = peer_at rules c.args.self.now.from plain in
    let seen = g.A.Handler.seen c.args.self.now.inner in
    let later = g.A.Handler.seen c.answer_unread-len.new.self in
    let there = ap (λ l. slice_get l tsig.key) (sym c.keys-in-Signed.ensures) ∙ sym c.get.ensures ∙ ap option_copied c.in-Some.is in
    let bare = take c.answer_unread-len.result c.answer_unread-len.new.out in
    let sent = take c.sign_reply.result c.sign_reply.new.out in
    told_to_all g.K.KeyRing.keys g.K.KeyRing.rights g.A.Handler.is_reply AreSignedAlone c.args.verified (Signed tsig) c.args.now seen later c.args.request.now (sent ∷ []) c.in-Signed.is c.answer_unread-len.ensures.grows
    (λ asking. signed_as g.K.KeyRing.keys g.K.KeyRing.rights g.A.Handler.is_reply AreSignedAlone (slice_get g.K.KeyRing.keys tsig.key) c.in-Some.key.now c.args.now tsig (by_datagram asking) seen later c.args.request.now plain
    c.args.self.now.from own own (bare ∷ []) (sent ∷ []) there c.plain-plain.ensures.plain (is_peer_at rules c.args.self.now.from plain) refl (c.answer_unread-len.ensures.reply own)
    (one_alone c.in-Some.key.now c.args.now tsig (reply_limit Udp plain) c.reply_limit-limit.result c.stamp_at.result bare sent c.stamp_at.ensures c.reply_limit-limit.ensures.limit c.sign_reply.ensures.octets))
