use Rattle.wire_names.proofs.GrammarLemmas.{one_fault_at}
use Rattle.wire_names.proofs.laws.one_fault.Goals as goal

pub returns : goal.returns
returns c = one_fault_at
