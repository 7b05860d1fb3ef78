use Rattle.dns_name.specs.Order.{is_same_Decides, is_same_equiv}
use Rattle.dns_name.proofs.LawLemmas.{fold-IsName}
use Rattle.dns_name.proofs.laws.same_but_for_case.Goals as goal

pub returns-clause-folded : goal.returns-clause-folded
returns-clause-folded c = is_same_Decides

pub returns-clause-equivalence : goal.returns-clause-equivalence
returns-clause-equivalence c = is_same_equiv

pub returns-clause-octets : goal.returns-clause-octets
returns-clause-octets c = fold-IsName
