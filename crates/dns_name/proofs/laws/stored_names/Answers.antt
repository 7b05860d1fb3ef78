use Rattle.dns_name.proofs.StoredLemmas.{stored_of-cmp, name_back}
use Rattle.dns_name.proofs.laws.stored_names.Goals as goal

pub returns-clause-order : goal.returns-clause-order
returns-clause-order c = stored_of-cmp

pub returns-clause-back : goal.returns-clause-back
returns-clause-back c = name_back
