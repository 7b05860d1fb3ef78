use Rattle.zone_tree.proofs.CheckLemmas.{rrset_from_data}
use Rattle.test_zone.proofs.edits.len_of.Goals as goal

pub returns : goal.returns
returns c = rrset_from_data c.args.set.now c.data.result.now c.data.ensures.records c.data.ensures.lawful c.data.ensures.each c.data.ensures.short
