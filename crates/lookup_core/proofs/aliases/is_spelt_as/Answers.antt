use Rattle.lookup_core.proofs.AliasLemmas.{spelt_test}
use Rattle.lookup_core.proofs.aliases.is_spelt_as.Goals as goal

pub returns : goal.returns
returns c = spelt_test _ _ _ _ _ c.wire.ensures.lawful c.wire-2.ensures.lawful c.wire.ensures.octets c.wire-2.ensures.octets c.are_same.ensures
