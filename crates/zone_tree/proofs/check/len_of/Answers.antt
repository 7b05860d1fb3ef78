use Rattle.zone_tree.proofs.CheckLemmas.{rrset_from_data}
use Rattle.zone_tree.proofs.check.len_of.Goals as goal

pub returns-clause-lawful : goal.returns-clause-lawful
returns-clause-lawful c = rrset_from_data c.args.set.now c.data.result.now c.data.ensures.records c.data.ensures.lawful c.data.ensures.each c.data.ensures.short
