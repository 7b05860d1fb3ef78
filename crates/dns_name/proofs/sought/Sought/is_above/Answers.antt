use Rattle.dns_name.proofs.StoredLemmas.{stored_is, under_at}
use Rattle.dns_name.proofs.sought.Sought.is_above.Goals as goal

pub returns : goal.returns
returns c =
    under_at _ _ _ c.args.other.now c.args.self.now (stored_is _ _ c.octets.ensures.stored c.octets.ensures.name) (stored_is _ _ c.octets-2.ensures.stored c.octets-2.ensures.name) c.starts_with.ensures.value
