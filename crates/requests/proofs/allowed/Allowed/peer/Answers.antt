-- The peer is that of its address's requestor.
use Rattle.requests.proofs.PeerLemmas.{peer_as}
use Rattle.requests.proofs.allowed.Allowed.peer.Goals as goal

pub returns : goal.returns
returns c = peer_as c.args.self.rules.now c.new-who.result c.args.transport c.args.from c.args.request.now c.ip.result c.is_stream.result c.in-Ok.may c.may_transfer.result c.ip.ensures c.new-who.ensures.bits c.new-who.ensures.tcp c.is_stream.ensures c.in-Ok.ensures c.may_transfer.ensures
