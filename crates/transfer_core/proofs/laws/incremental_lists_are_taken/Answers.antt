-- Step by step.
use Rattle.transfer_core.proofs.ChainLemmas.{incremental_taken}
use Rattle.transfer_core.proofs.laws.incremental_lists_are_taken.Goals as goal

pub returns : goal.returns
returns c = incremental_taken
