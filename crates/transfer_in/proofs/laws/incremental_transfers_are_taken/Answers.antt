use Rattle.transfer_in.proofs.WholeLemmas.{incremental_transfer}
use Rattle.transfer_in.proofs.laws.incremental_transfers_are_taken.Goals as goal

pub returns : goal.returns
returns c = incremental_transfer
