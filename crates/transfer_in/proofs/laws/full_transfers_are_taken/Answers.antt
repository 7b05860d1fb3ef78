use Rattle.transfer_in.proofs.WholeLemmas.{full_transfer}
use Rattle.transfer_in.proofs.laws.full_transfers_are_taken.Goals as goal

pub returns : goal.returns
returns c = full_transfer
