-- A request is answered by how many octets it has, and by whether its first octets tell that it has no TSIG.
use Rattle.std.proofs.Common.{arith, sym}
use Rattle.requests.specs.Datagrams.{by_datagram}
use Rattle.signed_replies.specs.Signed.{AreSignedAlone}
use Rattle.signed_replies.proofs.ReplyLemmas.{too_few, silent_to}
use Rattle.signed_replies.proofs.datagrams.SignedDatagramsHandler.answer.Goals as goal

pub returns-then-request-lt-HEADER-clause-reply : goal.returns-then-request-lt-HEADER-clause-reply
returns-then-request-lt-HEADER-clause-reply g c =
    silent_to g.K.KeyRing.keys g.K.KeyRing.rights g.A.Handler.is_reply AreSignedAlone (by_datagram c.args.self.now.peer) (g.A.Handler.seen c.args.self.now.inner) c.args.request.now (too_few g.K.KeyRing.keys 0 c.args.request.now (omega arith))

pub answer_plain-requires-clause-unsigned : goal.answer_plain-requires-clause-unsigned
answer_plain-requires-clause-unsigned g c = sym (c.if-has_no_tsig.ensures g.K.KeyRing.keys 0)

pub answer_turned-requires-clause-unsigned : goal.answer_turned-requires-clause-unsigned
answer_turned-requires-clause-unsigned g c = sym (c.if-has_no_tsig.ensures g.K.KeyRing.keys 0)
