use Rattle.dns_rdata.proofs.CountLemmas.{names_count, alias_target}
use Rattle.dns_rdata.proofs.laws.names_of_data.Goals as goal

pub returns-clause-count : goal.returns-clause-count
returns-clause-count c = names_count

pub returns-clause-target : goal.returns-clause-target
returns-clause-target c = alias_target
