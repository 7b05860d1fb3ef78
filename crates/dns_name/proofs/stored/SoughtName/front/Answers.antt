use Rattle.std.proofs.Common.{◌∙◌}
use Rattle.dns_name.specs.Front.{front_of}
use Rattle.dns_name.proofs.StoredLemmas.{stored_is}
use Rattle.dns_name.proofs.stored.SoughtName.front.Goals as goal

pub returns : goal.returns
returns c =
    let base = stored_is _ _ c.octets.ensures.stored c.octets.ensures.name in
    let own = stored_is _ _ c.octets-2.ensures.stored c.octets-2.ensures.name in
    c.front_of.ensures ∙ (λ i. front_of (base i) (own i))
