use Rattle.std.proofs.Common.{◌∙◌}
use Rattle.transfer_core.proofs.SoaLemmas.{soa_among, without_soa}
use Rattle.transfer_in.proofs.reading.without_soa.Goals as goal

pub without-requires : goal.without-requires
without-requires c = soa_among c.args.soa.now c.args.records c.requires

pub returns : goal.returns
returns c = c.in_ok-next.ensures.records ∙ without_soa c.args.soa.now c.args.records c.requires
