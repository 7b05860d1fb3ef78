use Rattle.dns_name.proofs.BelowLemmas.{level_at}
use Rattle.dns_name.proofs.StoredLemmas.{stored_is}
use Rattle.std.proofs.Common.{refl}
use Rattle.dns_name.proofs.sought.Sought.is_level.Goals as goal

pub returns : goal.returns
returns c =
    level_at _ _ _ c.args.self.now c.args.other.now (stored_is _ _ c.octets.ensures.stored c.octets.ensures.name) (stored_is _ _ c.octets-2.ensures.stored c.octets-2.ensures.name) c.requires refl
