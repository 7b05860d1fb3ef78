use Rattle.std.proofs.Common.{sym}
use Rattle.update_core.proofs.additions.data_in_zone.Goals as goal

pub returns-in-Ok-clause-sent : goal.returns-in-Ok-clause-sent
returns-in-Ok-clause-sent c = rw (sym c.raw.view_is) (record { name = c.wire-owner.ensures.lawful; owner_octets = c.wire-owner.ensures.bytes; octets = rw (sym c.deref.ensures.value) c.are_octets.ensures })
