use Rattle.std.proofs.Common.{sym}
use Rattle.dns_rdata.proofs.SetLemmas.{IsSet-one}
use Rattle.dns_rdata.proofs.rrset.RRset.of_one.Goals as goal

pub invariant_of-result : goal.invariant_of-result
invariant_of-result c =
    let own = c.octets-octets.ensures in
    rw c.from_buf.ensures.items
    (IsSet-one _ _ _ _ (rw own.name at own.stored.name) (rw own.name at own.stored.bytes) (rw own.name at own.stored.folded) c.requires (sym c.rtype-rtype.ensures.rtype) c.rtype-rtype.ensures.lawful)
