use Rattle.transfer_core.proofs.SoaLemmas.{soa_not_among, soa_of_soa}
use Rattle.transfer_in.proofs.reading.end_deletions.Goals as goal

pub put-requires : goal.put-requires
put-requires c = soa_not_among c.args.one c.args.records c.requires.next c.requires.left

pub returns-clause-soa : goal.returns-clause-soa
returns-clause-soa c = rw (c.in_ok-records.ensures.same, c.in_ok-soa.ensures) (soa_of_soa c.args.one c.args.records c.requires.next c.requires.left)
