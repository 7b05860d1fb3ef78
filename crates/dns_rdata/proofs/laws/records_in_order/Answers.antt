use Rattle.dns_rdata.proofs.LawLemmas.{record_cmp_total}
use Rattle.dns_rdata.proofs.laws.records_in_order.Goals as goal

pub returns : goal.returns
returns c = record_cmp_total
