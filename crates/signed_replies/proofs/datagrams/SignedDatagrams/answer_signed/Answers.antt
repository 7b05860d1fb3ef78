-- The reply to the request without its TSIG, signed.
use Rattle.std.proofs.Common.{sym, ap, subst, ◌∙◌, refl, [], ◌∷◌, take, slice_get}
use Rattle.std.specs.Option.{option_copied}
use Rattle.requests.specs.Datagrams.{by_datagram}
use Rattle.requests.specs.Octets.{messages_in}
use Rattle.requests.proofs.ExchangeLemmas.{datagram_same}
use Rattle.requests.proofs.PeerLemmas.{peer_at, is_peer_at}
use Rattle.requests.proofs.TurnLemmas.{grows_itself}
use Rattle.serve_core.specs.declared.transport.Transport.TheVariants.{Udp}
use Rattle.signed_replies.specs.Rights.{rules_of}
use Rattle.signed_replies.specs.Signed.{reply_limit, AreSignedAlone}
use Rattle.signed_replies.proofs.ReplyLemmas.{signed_reply_none, signed_as, one_alone}
use Rattle.signed_replies.proofs.datagrams.SignedDatagrams.answer_signed.Goals as goal

pub returns-in_default-clause-reply : goal.returns-in_default-clause-reply
returns-in_default-clause-reply g c =
    let peer = by_datagram c.args.self.now.peer in
    let seen = g.A.Handler.seen c.args.self.now.inner in
    let none = ap (λ l. slice_get l c.args.tsig.key) (sym c.keys.ensures) ∙ sym c.get.ensures ∙ ap option_copied c.in_default.is in (
      seen,
      grows_itself seen,
      grows_itself seen,
      signed_reply_none g.K.KeyRing.keys g.K.KeyRing.rights g.A.Handler.is_reply AreSignedAlone (slice_get g.K.KeyRing.keys c.args.tsig.key) c.args.now c.args.tsig peer seen seen c.args.request.now none,
    )

pub returns-in-Err-clause-reply : goal.returns-in-Err-clause-reply
returns-in-Err-clause-reply g c =
    let peer = by_datagram c.args.self.now.peer in
    let plain = c.plain-plain.result.now in
    let rules = rules_of g.K.KeyRing.rights c.args.tsig.key in
    let own = peer_at rules c.args.self.now.from plain in
    let seen = g.A.Handler.seen c.args.self.now.inner in
    let later = g.A.Handler.seen c.answer_unread-len.new.self in
    let there = ap (λ l. slice_get l c.args.tsig.key) (sym c.keys.ensures) ∙ sym c.get.ensures ∙ ap option_copied c.in-Some.is in
    let bare = take c.answer_unread-len.result c.answer_unread-len.new.out in
    let sent = take c.sign_reply.result c.sign_reply.new.out in (
      seen,
      grows_itself seen,
      c.answer_unread-len.ensures.grows,
      signed_as g.K.KeyRing.keys g.K.KeyRing.rights g.A.Handler.is_reply AreSignedAlone (slice_get g.K.KeyRing.keys c.args.tsig.key) c.in-Some.key.now c.args.now c.args.tsig peer seen later c.args.request.now plain
          c.args.self.now.from own own (bare ∷ []) (sent ∷ []) there c.plain-plain.ensures.plain (is_peer_at rules c.args.self.now.from plain) refl (c.answer_unread-len.ensures.reply own)
          (one_alone c.in-Some.key.now c.args.now c.args.tsig (reply_limit Udp plain) c.reply_limit-limit.result c.stamp_at.result bare sent c.stamp_at.ensures c.reply_limit-limit.ensures.limit c.sign_reply.ensures.octets),
    )

pub returns-in_default-2-clause-reply : goal.returns-in_default-2-clause-reply
returns-in_default-2-clause-reply g c =
    let peer = by_datagram c.args.self.now.peer in
    let plain = c.plain-plain.result.now in
    let own = c.in-Ok.peer in
    let later = g.A.Handler.seen c.answer_with.new.inner in
    let there = ap (λ l. slice_get l c.args.tsig.key) (sym c.keys.ensures) ∙ sym c.get.ensures ∙ ap option_copied c.in-Some.is in
    let made = c.in_ok-len.ensures.reply in
    let none = subst (λ o. g.A.Handler.is_reply (by_datagram own) made.0 later plain (messages_in o c.answer_with.new.out)) c.in_default-2.is made.3 in (
      made.0,
      made.1,
      made.2,
      signed_as g.K.KeyRing.keys g.K.KeyRing.rights g.A.Handler.is_reply AreSignedAlone (slice_get g.K.KeyRing.keys c.args.tsig.key) c.in-Some.key.now c.args.now c.args.tsig peer made.0 later c.args.request.now plain
          c.args.self.now.from own (by_datagram own) [] [] there c.plain-plain.ensures.plain c.in-Ok.ensures (datagram_same own c.in-Ok.ensures.over) none refl,
    )

pub returns-clause-reply : goal.returns-clause-reply
returns-clause-reply g c =
    let peer = by_datagram c.args.self.now.peer in
    let plain = c.plain-plain.result.now in
    let own = c.in-Ok.peer in
    let later = g.A.Handler.seen c.answer_with.new.inner in
    let there = ap (λ l. slice_get l c.args.tsig.key) (sym c.keys.ensures) ∙ sym c.get.ensures ∙ ap option_copied c.in-Some.is in
    let made = c.in_ok-len.ensures.reply in
    let bare = take c.in-Some-2.len c.answer_with.new.out in
    let sent = take c.sign_reply-2.result c.sign_reply-2.new.out in
    let reply = subst (λ o. g.A.Handler.is_reply (by_datagram own) made.0 later plain (messages_in o c.answer_with.new.out)) c.in-Some-2.is made.3 in (
      made.0,
      made.1,
      made.2,
      signed_as g.K.KeyRing.keys g.K.KeyRing.rights g.A.Handler.is_reply AreSignedAlone (slice_get g.K.KeyRing.keys c.args.tsig.key) c.in-Some.key.now c.args.now c.args.tsig peer made.0 later c.args.request.now plain
          c.args.self.now.from own (by_datagram own) (bare ∷ []) (sent ∷ []) there c.plain-plain.ensures.plain c.in-Ok.ensures (datagram_same own c.in-Ok.ensures.over) reply
          (one_alone c.in-Some.key.now c.args.now c.args.tsig (reply_limit Udp plain) c.reply_limit-limit.result c.stamp_at-2.result bare sent c.stamp_at-2.ensures c.reply_limit-limit.ensures.limit c.sign_reply-2.ensures.octets),
    )
