-- Record by record.
use Rattle.transfer_core.proofs.FullLemmas.{full_taken}
use Rattle.transfer_core.proofs.laws.full_lists_are_taken.Goals as goal

pub returns : goal.returns
returns c = full_taken
