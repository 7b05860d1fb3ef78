use Rattle.dns_rdata.proofs.InsertLemmas.{records_with-ttl}
use Rattle.dns_rdata.proofs.rrset.RRset.set_ttl.Goals as goal

pub returns : goal.returns
returns c = rw (← c.self.view_is) (records_with-ttl _ _ _ _ _)
