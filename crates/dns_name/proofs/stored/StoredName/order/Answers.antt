use Rattle.std.proofs.Common.{◌∙◌}
use Rattle.dns_name.proofs.StoredLemmas.{stored_is, stored_folded, order_at}
use Rattle.dns_name.proofs.stored.StoredName.order.Goals as goal

pub returns : goal.returns
returns c =
    c.cmp.ensures ∙ order_at _ _ c.args.self.now c.args.other.now (stored_is _ _ c.octets.ensures.stored c.octets.ensures.name)
    (stored_folded _ _ c.args.other.now c.octets-2.ensures.stored c.octets-2.ensures.name c.new-sought.ensures.folded)
