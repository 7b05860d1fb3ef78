use Rattle.std.proofs.Common.{ap, subst, ◌∙◌}
use Rattle.zone_change.specs.Change.{update_from}
use Rattle.zone_change.specs.Messages.{IsTooLong}
use Rattle.zone_change.proofs.SizeLemmas.{not_too_long}
use Rattle.zone_change.proofs.update.change_to.Goals as goal

pub returns-clause-fits : goal.returns-clause-fits
returns-clause-fits c long =
    let zones = c.in_ok-change.ensures.zones in
    let is = c.in_ok-update.ensures ∙ ap (update_from c.args.old.now) c.in_ok-updates.ensures.records in
    not_too_long c.args.old.now c.args.next.now zones.0 zones.1 zones.2 (subst IsTooLong is long)
