-- Each version's difference sequence is passed, or is where the place is.
use Rattle.std.proofs.Common.{◌+◌, ◌≤◌, ◌++◌, drop, length, refl, sym, ap, ◌∙◌, rules}
use Rattle.std.proofs.lemmas.List.{drop_all}
use Rattle.zone_tree.specs.Zone.{soa_of}
use Rattle.transfer_core.specs.Chain.{told_steps}
use Rattle.transfer_core.specs.Places.{steps_from}
use Rattle.transfer_core.proofs.PlaceLemmas.{version_passed, version_begun}
use Rattle.transfer_core.proofs.step.in_changes.Goals as goal

pub loop-at-init : goal.loop-at-init
loop-at-init g c = refl

pub returns-in-Ok : goal.returns-in-Ok
returns-in-Ok g c =
    let versions = g.C.VersionList.versions c.args.chain.now in
    let closing = soa_of c.args.zone.now in
    version_begun c.loop-at.begun c.loop-at.from c.loop-at.at c.loop-at.left c.version_at.result.now versions closing c.version_at.ensures c.in-Ok.step.part c.in-Ok.step.set c.in-Ok.step.sent
    (c.in-Ok.ensures.inside (told_steps (drop (c.loop-at.at + 1) versions) ++ closing))
    ∙ c.loop-at.invariant

pub loop-at-preserved : goal.loop-at-preserved
loop-at-preserved g c =
    let versions = g.C.VersionList.versions c.args.chain.now in
    let closing = soa_of c.args.zone.now in
    version_passed c.loop-at.begun c.loop-at.from c.loop-at.at c.loop-at.left c.version_at.result.now versions closing c.version_at.ensures c.in-Err.more
    (c.in-Err.ensures.behind (told_steps (drop (c.loop-at.at + 1) versions) ++ closing))
    ∙ c.loop-at.invariant

pub returns : goal.returns
returns g c =
    let versions = g.C.VersionList.versions c.args.chain.now in
    let past : length versions ≤ c.loop-at.at = search rules in
    c.at_close.ensures versions
    ∙ ap (λ l. drop c.loop-at.left (steps_from c.loop-at.begun c.loop-at.from l ++ soa_of c.args.zone.now)) (sym (drop_all c.loop-at.at versions past))
    ∙ c.loop-at.invariant
