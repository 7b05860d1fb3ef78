use Rattle.dns_name.specs.Order.{canonical_total}
use Rattle.dns_name.proofs.LawLemmas.{ties_same}
use Rattle.dns_name.proofs.laws.canonical_order.Goals as goal

pub returns-clause-total : goal.returns-clause-total
returns-clause-total c = canonical_total

pub returns-clause-ties : goal.returns-clause-ties
returns-clause-ties c = ties_same
