use Rattle.std.proofs.Common.{sym}
use Rattle.update_core.proofs.effects.check_sent.Goals as goal

pub returns : goal.returns
returns c = rw (sym c.raw.view_is) (record { name = c.wire-owner.ensures.lawful; owner_octets = c.wire-owner.ensures.bytes; octets = rw (sym c.deref.ensures.value) c.check_octets.ensures })
