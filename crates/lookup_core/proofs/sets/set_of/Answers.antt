use Rattle.lookup_core.proofs.SetLemmas.{rrset_by}
use Rattle.lookup_core.proofs.sets.set_of.Goals as goal

pub returns-clause-none : goal.returns-clause-none
returns-clause-none c = λ zone at all. (rrset_by zone at c.args.sets.now c.args.rtype.0 c.first_of.result all c.first_of.ensures).0

pub returns-clause-set : goal.returns-clause-set
returns-clause-set c = λ zone at all. (rrset_by zone at c.args.sets.now c.args.rtype.0 c.first_of.result all c.first_of.ensures).1
