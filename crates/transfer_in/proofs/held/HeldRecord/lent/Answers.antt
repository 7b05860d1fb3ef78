use Rattle.std.proofs.Common.{◌∙◌, sym, subst}
use Rattle.dns_rdata.specs.Data.{IsData}
use Rattle.dns_rdata.specs.Record.{IsLawful}
use Rattle.transfer_in.proofs.HeldLemmas.{lent_lawful}
use Rattle.transfer_in.proofs.held.HeldRecord.lent.Goals as goal

pub invariant_of-result : goal.invariant_of-result
invariant_of-result c =
    subst (λ octets. IsLawful (record { owner = c.in_ok-new.field-0; rtype = c.rtype.result.0; ttl = c.ttl.result.0; rdata = octets }))
    (sym c.in_ok-from_slice.ensures.items)
    (lent_lawful c.to_name.result c.in_ok-new.field-0 c.rtype.result.0 c.ttl.result.0 c.rdata.result.now.rtype c.octets.result.now
    c.in_ok-new.ensures.folded c.in_ok-new.ensures.lawful c.in_ok-new.ensures.bytes c.ttl.ensures.lasts (c.rdata.ensures.typed ∙ sym c.rtype.ensures)
    (subst (λ octets. IsData (record { rtype = c.rdata.result.now.rtype; octets = octets })) (sym c.octets.ensures.octets) c.octets.ensures.lawful))
