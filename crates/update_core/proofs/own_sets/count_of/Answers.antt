use Rattle.update_core.proofs.OwnSets.{lawful_of}
use Rattle.update_core.proofs.own_sets.count_of.Goals as goal

pub returns-in-Some-clause-lawful : goal.returns-in-Some-clause-lawful
returns-in-Some-clause-lawful c = rw c.in-Some.is (lawful_of c.in-Some.set c.data.result.now c.data.ensures.records c.data.ensures.lawful c.data.ensures.each c.data.ensures.short)
