use Rattle.dns_rdata.proofs.LawLemmas.{has_data-with_record}
use Rattle.dns_rdata.proofs.laws.one_more.Goals as goal

pub returns : goal.returns
returns c = has_data-with_record
