use Rattle.transfer_in.proofs.HeldLemmas.{entered_lawful}
use Rattle.transfer_in.proofs.held.HeldRecord.entered.Goals as goal

pub invariant_of-result : goal.invariant_of-result
invariant_of-result c =
    entered_lawful c.sent.inside.owner c.in_ok-new.field-0 c.sent.inside.rtype.0 c.received.result.0 c.in-Some.octets.items
    c.in_ok-new.ensures.folded c.in_ok-new.ensures.lawful c.in_ok-new.ensures.bytes c.received.ensures.lasts
    (rw c.in-Some.is at c.in_ok-octets.ensures.form) (rw c.in-Some.is at c.in_ok-octets.ensures.bytes)
