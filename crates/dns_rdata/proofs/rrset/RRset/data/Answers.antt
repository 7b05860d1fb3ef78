use Rattle.dns_rdata.proofs.SetLemmas.{records_with-of, owner_of-records_with, rtype_of-records_with, ttl_of-records_with, lawful_records, short_records}
use Rattle.dns_rdata.proofs.rrset.RRset.data.Goals as goal

pub returns-clause-records : goal.returns-clause-records
returns-clause-records c = rw (← c.self.view_is, c.as_slice.ensures) (records_with-of _ _ _ _ c.self.invariant.some)

pub returns-clause-lawful : goal.returns-clause-lawful
returns-clause-lawful c =
    let set = c.self.inside in
    let some = c.self.invariant.some in
    rw (
      ← c.self.view_is,
      c.as_slice.ensures,
      owner_of-records_with set.owner set.rtype.0 set.ttl.0 set.rdata.items some,
      rtype_of-records_with set.owner set.rtype.0 set.ttl.0 set.rdata.items some,
      ttl_of-records_with set.owner set.rtype.0 set.ttl.0 set.rdata.items some,
    )
    c.self.invariant

pub returns-clause-each : goal.returns-clause-each
returns-clause-each c = rw (← c.self.view_is) (lawful_records _ _ _ _ c.self.invariant)

pub returns-clause-short : goal.returns-clause-short
returns-clause-short c = rw (← c.self.view_is) (short_records _ _ _ _ c.self.invariant)
