use Rattle.transfer_core.proofs.SoaLemmas.{soa_of_removed}
use Rattle.transfer_in.proofs.reading.delete.Goals as goal

pub returns-clause-soa : goal.returns-clause-soa
returns-clause-soa c = rw c.in_ok-records.ensures.same (soa_of_removed c.args.one c.args.records c.requires)
