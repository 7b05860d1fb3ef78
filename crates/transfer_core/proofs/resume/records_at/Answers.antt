-- By where the place is.
use Rattle.std.proofs.Common.{drop, sym, ap, ◌∙◌}
use Rattle.transfer_core.specs.Places.{left_at}
use Rattle.transfer_core.proofs.resume.records_at.Goals as goal

pub returns-in-ZoneStart : goal.returns-in-ZoneStart
returns-in-ZoneStart g c = c.full.ensures.list ∙ ap (left_at c.args.zone.now (g.C.VersionList.versions c.args.chain.now)) (sym c.in-ZoneStart.is)

pub returns-in-InZone : goal.returns-in-InZone
returns-in-InZone g c =
    c.behind.ensures ∙ ap (drop c.in-InZone.at.sent) c.zone_from.ensures ∙ ap (left_at c.args.zone.now (g.C.VersionList.versions c.args.chain.now)) (sym c.in-InZone.is)

pub returns-in-ChangesStart : goal.returns-in-ChangesStart
returns-in-ChangesStart g c = c.steps.ensures.reported ∙ ap (left_at c.args.zone.now (g.C.VersionList.versions c.args.chain.now)) (sym c.in-ChangesStart.is)

pub returns-in-InChanges : goal.returns-in-InChanges
returns-in-InChanges g c =
    c.behind-in-InChanges.ensures ∙ ap (drop c.in-InChanges.at.step.sent) c.changes_from.ensures
    ∙ ap (left_at c.args.zone.now (g.C.VersionList.versions c.args.chain.now)) (sym c.in-InChanges.is)

pub returns-in-LastSoa : goal.returns-in-LastSoa
returns-in-LastSoa g c = c.new.ensures.all ∙ c.soa.ensures.set ∙ ap (left_at c.args.zone.now (g.C.VersionList.versions c.args.chain.now)) (sym c.in-LastSoa.is)

pub returns-in-End : goal.returns-in-End
returns-in-End g c = c.none.ensures ∙ ap (left_at c.args.zone.now (g.C.VersionList.versions c.args.chain.now)) (sym c.in-End.is)
