use Rattle.std.proofs.Common.{◌∙◌}
use Rattle.dns_name.proofs.StoredLemmas.{stored_is, order_at}
use Rattle.dns_name.proofs.sought.Sought.order.Goals as goal

pub returns : goal.returns
returns c =
    c.cmp.ensures ∙ order_at _ _ c.args.self.now c.args.other.now (stored_is _ _ c.octets.ensures.stored c.octets.ensures.name) (stored_is _ _ c.octets-2.ensures.stored c.octets-2.ensures.name)
