use Rattle.std.proofs.Common.{◌∙◌}
use Rattle.transfer_core.proofs.SoaLemmas.{soa_of_plain}
use Rattle.transfer_in.proofs.reading.add_one.Goals as goal

pub returns-clause-soa : goal.returns-clause-soa
returns-clause-soa c = rw c.in_ok-records.ensures.same (soa_of_plain c.args.one c.args.records c.requires.plain ∙ c.requires.soa)
