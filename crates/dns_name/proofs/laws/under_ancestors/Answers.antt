use Rattle.dns_name.proofs.LawLemmas.{under_each, ending_from_under, under_from_ending}
use Rattle.dns_name.proofs.laws.under_ancestors.Goals as goal

pub returns-clause-each : goal.returns-clause-each
returns-clause-each c = under_each

pub returns-clause-ending : goal.returns-clause-ending
returns-clause-ending c = λ name other. (ending_from_under name other, λ ending. under_from_ending name other ending.0 ending.1)
