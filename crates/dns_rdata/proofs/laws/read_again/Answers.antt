use Rattle.dns_rdata.proofs.DataLemmas.{IsRead-data}
use Rattle.dns_rdata.proofs.laws.read_again.Goals as goal

pub returns-clause-again : goal.returns-clause-again
returns-clause-again c = λ rtype octets own e. (IsRead-data rtype octets own e).again

pub returns-clause-len : goal.returns-clause-len
returns-clause-len c = λ rtype octets own e. (IsRead-data rtype octets own e).len
