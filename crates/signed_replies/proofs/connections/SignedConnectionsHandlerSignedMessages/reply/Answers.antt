-- Fewer octets than a header has get no reply.
use Rattle.std.proofs.Common.{arith}
use Rattle.signed_replies.specs.Stream.{AreSignedInOrder}
use Rattle.signed_replies.proofs.ConnectionLemmas.{silent_to}
use Rattle.signed_replies.proofs.ReplyLemmas.{too_few}
use Rattle.signed_replies.proofs.connections.SignedConnectionsHandlerSignedMessages.reply.Goals as goal

pub returns-then-request-lt-HEADER-clause-reply : goal.returns-then-request-lt-HEADER-clause-reply
returns-then-request-lt-HEADER-clause-reply g c = λ made.
    silent_to g.K.KeyRing.keys g.K.KeyRing.rights g.A.Handler.is_reply AreSignedInOrder c.args.self.now.peer (g.A.Handler.seen c.args.self.now.inner c.args.self.now.asker) c.args.request.now (too_few g.K.KeyRing.keys 0 c.args.request.now (omega arith))
