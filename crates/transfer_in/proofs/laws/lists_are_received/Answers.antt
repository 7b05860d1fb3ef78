use Rattle.transfer_in.proofs.PackedLemmas.{packed_received}
use Rattle.transfer_in.proofs.laws.lists_are_received.Goals as goal

pub returns : goal.returns
returns c = packed_received
