use Rattle.std.proofs.Common.{sym}
use Rattle.dns_name.proofs.LabelLemmas.{wire_of-labels_in}
use Rattle.dns_name.proofs.SameLemmas.{same_test}
use Rattle.dns_name.proofs.name.Name.is_spelt_by.Goals as goal

pub returns : goal.returns
returns c = same_test _ _ _ _ _ c.requires.lawful c.wire.ensures.lawful (sym (wire_of-labels_in c.args.wire.now c.requires.whole)) c.wire.ensures.octets c.eq_ignore_ascii_case.ensures.test
