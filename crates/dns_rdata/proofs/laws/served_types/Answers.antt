use Rattle.dns_rdata.proofs.LayoutLemmas.{served_types-are}
use Rattle.dns_rdata.proofs.laws.served_types.Goals as goal

pub returns : goal.returns
returns c = served_types-are
