-- Record by record.
use Rattle.transfer_core.proofs.FaultLemmas.{first_fault}
use Rattle.transfer_core.proofs.laws.first_faults_are_reported.Goals as goal

pub returns : goal.returns
returns c = first_fault
