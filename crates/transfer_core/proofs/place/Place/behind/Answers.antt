-- By where the place is.
use Rattle.std.proofs.Common.{[], ◌++◌, drop, sym, ap, ◌∙◌, arith}
use Rattle.std.proofs.lemmas.List.{drop_all}
use Rattle.zone_tree.specs.Zone.{soa_of}
use Rattle.transfer_core.specs.Places.{zone_left, steps_from, left_at}
use Rattle.transfer_core.proofs.place.Place.behind.Goals as goal

pub returns-in-ZoneStart : goal.returns-in-ZoneStart
returns-in-ZoneStart g c =
    let versions = g.C.VersionList.versions c.args.chain.now in
    c.in_full.ensures versions ∙ ap (λ place. drop c.args.count (left_at c.args.zone.now versions place)) (sym c.in-ZoneStart.is)

pub returns-in-InZone : goal.returns-in-InZone
returns-in-InZone g c =
    let versions = g.C.VersionList.versions c.args.chain.now in
    let at = c.in-InZone.at in
    c.in_zone.ensures versions
    ∙ c.sum-passed.ensures (zone_left c.args.zone.now at.owner at.rtype.0)
    ∙ ap (λ place. drop c.args.count (left_at c.args.zone.now versions place)) (sym c.in-InZone.is)

pub returns-in-ChangesStart : goal.returns-in-ChangesStart
returns-in-ChangesStart g c =
    let versions = g.C.VersionList.versions c.args.chain.now in
    c.in_list.ensures ∙ ap (λ place. drop c.args.count (left_at c.args.zone.now versions place)) (sym c.in-ChangesStart.is)

pub returns-in-InChanges : goal.returns-in-InChanges
returns-in-InChanges g c =
    let versions = g.C.VersionList.versions c.args.chain.now in
    let at = c.in-InChanges.at in
    c.in_changes.ensures
    ∙ c.sum-sent.ensures (steps_from at.step.part at.step.set (drop at.version versions) ++ soa_of c.args.zone.now)
    ∙ ap (λ place. drop c.args.count (left_at c.args.zone.now versions place)) (sym c.in-InChanges.is)

pub returns-in-LastSoa : goal.returns-in-LastSoa
returns-in-LastSoa g c =
    let versions = g.C.VersionList.versions c.args.chain.now in
    c.at_close.ensures versions
    ∙ ap (λ n. drop n (soa_of c.args.zone.now)) c.from.ensures
    ∙ ap (λ place. drop c.args.count (left_at c.args.zone.now versions place)) (sym c.in-LastSoa.is)

pub returns-in-End : goal.returns-in-End
returns-in-End g c =
    let versions = g.C.VersionList.versions c.args.chain.now in
    sym (drop_all c.args.count [] (omega arith)) ∙ ap (λ place. drop c.args.count (left_at c.args.zone.now versions place)) (sym c.in-End.is)
