use Rattle.std.proofs.Common.{◌∙◌}
use Rattle.notify.proofs.NotifyLemmas.{notified}
use Rattle.notify.proofs.message.write_notify.Goals as goal

pub returns-clause-octets : goal.returns-clause-octets
returns-clause-octets g c =
    notified (g.Z.ZoneRead.records c.args.zone.now) _ _ _ _ _ (c.copy.ensures ∙ c.apex.ensures) c.soa.ensures.set c.soa.ensures.one c.write_as_reply-len.ensures.octets
