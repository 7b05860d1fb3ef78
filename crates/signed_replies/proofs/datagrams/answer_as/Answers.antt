-- The reply is the handler's to that peer.
use Rattle.std.proofs.Common.{subst, IfOk}
use Rattle.requests.specs.Datagrams.{by_datagram}
use Rattle.requests.specs.Octets.{messages_in}
use Rattle.requests.proofs.TurnLemmas.{grows_more}
use Rattle.serve_core.specs.declared.peer.Peer.{Peer}
use Rattle.signed_replies.proofs.ReplyLemmas.{replied_as}
use Rattle.signed_replies.proofs.datagrams.answer_as.Goals as goal

pub returns-clause-grows : goal.returns-clause-grows
returns-clause-grows g c = grows_more _ _ _ c.turn_to.ensures.grows c.answer.ensures.grows

pub returns-clause-reply : goal.returns-clause-reply
returns-clause-reply g c =
    let seen = g.A.Handler.seen in
    let own = subst (λ (p : Peer). IfOk c.answer.result (λ len. g.A.Handler.is_reply (by_datagram p) (seen c.turn_to.new.self) (seen c.answer.new.self) c.args.request.now (messages_in len c.answer.new.out))) c.turn_to.ensures.other c.answer.ensures.reply in
    replied_as g.A.Handler.is_reply (by_datagram c.args.peer) (seen c.args.inner.now) (seen c.turn_to.new.self) (seen c.answer.new.self) c.args.request.now c.answer.new.out c.answer.result
    c.turn_to.ensures.grows c.answer.ensures.grows own
