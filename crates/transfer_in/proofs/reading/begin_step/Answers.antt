use Rattle.transfer_core.proofs.SoaLemmas.{is_soa_one, soa_of_beside}
use Rattle.transfer_in.proofs.reading.begin_step.Goals as goal

pub serial-requires-2 : goal.serial-requires-2
serial-requires-2 c = is_soa_one c.args.soa.now c.args.records c.requires.soa

pub returns-clause-soa : goal.returns-clause-soa
returns-clause-soa c = rw (c.in_ok-records.ensures.same, c.in_ok-left.ensures) (soa_of_beside c.args.records)
