use Rattle.transfer_core.proofs.SoaLemmas.{soa_of_beside}
use Rattle.transfer_in.proofs.reading.begin_changes.Goals as goal

pub returns-clause-soa : goal.returns-clause-soa
returns-clause-soa c = rw (c.in_ok-records.ensures.same, c.in_ok-left.ensures) (soa_of_beside c.args.zone.now)
