use Rattle.dns_name.proofs.SameLemmas.{same_test}
use Rattle.dns_name.proofs.order.NamePartialEq.eq.Goals as goal

pub returns : goal.returns
returns c = same_test _ _ _ _ _ c.wire.ensures.lawful c.wire-2.ensures.lawful c.wire.ensures.octets c.wire-2.ensures.octets c.eq_ignore_ascii_case.ensures.test
