use Rattle.std.proofs.Common.{◌≤◌, ◌++◌, length, sym, ap, ◌∙◌, rules}
use Rattle.std.proofs.lemmas.List.{drop_all}
use Rattle.zone_tree.specs.Zone.{soa_of}
use Rattle.transfer_core.specs.Places.{steps_from}
use Rattle.transfer_core.proofs.changes.changes_from.Goals as goal

pub returns : goal.returns
returns g c =
    let versions = g.C.VersionList.versions c.args.chain.now in
    let past : length versions ≤ c.args.version = search rules in
    c.closing_list.ensures ∙ ap (λ l. steps_from c.args.part c.args.set l ++ soa_of c.args.served.now) (sym (drop_all c.args.version versions past))
