use Rattle.transfer_in.proofs.PackedLemmas.{datagram_received}
use Rattle.transfer_in.proofs.laws.datagrams_are_received.Goals as goal

pub returns : goal.returns
returns c = datagram_received
