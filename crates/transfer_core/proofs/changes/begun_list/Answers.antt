use Rattle.std.proofs.Common.{◌+◌, ◌++◌, drop, ap, ◌∙◌}
use Rattle.std.specs.Prelude.{unwrap_or, []}
use Rattle.zone_tree.specs.Sets.{records_in}
use Rattle.transfer_core.specs.Chain.{told_steps}
use Rattle.transfer_core.specs.Places.{steps_from}
use Rattle.transfer_core.proofs.PlaceLemmas.{changes_left}
use Rattle.transfer_core.proofs.changes.begun_list.Goals as goal

pub returns : goal.returns
returns g c =
    let versions = g.C.VersionList.versions c.args.chain.now in
    let begun = c.part_left-rest.result in
    let half = unwrap_or c.part_after-half.result [] in
    ap (λ left. begun.0 ++ (records_in begun.1.now ++ (half ++ (told_steps left ++ c.soa-soa.result.now)))) c.new.ensures
    ∙ changes_left c.args.part c.args.set c.version_at-current.result.now (drop c.args.version versions) (drop (c.args.version + 1) versions) begun.0 (records_in begun.1.now) half c.soa-soa.result.now c.version_at-current.ensures c.part_left-rest.ensures (c.part_after-half.ensures c.args.set)
    ∙ ap (λ soa. steps_from c.args.part c.args.set (drop c.args.version versions) ++ soa) c.soa-soa.ensures.set
