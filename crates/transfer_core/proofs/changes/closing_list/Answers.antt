use Rattle.std.proofs.Common.{◌≤◌, length, ◌∙◌, rules}
use Rattle.std.proofs.lemmas.List.{drop_all}
use Rattle.zone_tree.specs.Zone.{soa_of}
use Rattle.transfer_core.proofs.PlaceLemmas.{closes}
use Rattle.transfer_core.proofs.changes.closing_list.Goals as goal

pub returns : goal.returns
returns g c =
    let versions = g.C.VersionList.versions c.args.chain.now in
    let past : length versions ≤ c.len.result = search rules in
    closes c.none.result c.soa-soa.result.now (soa_of c.args.served.now) c.new.result c.none.ensures (c.new.ensures ∙ drop_all c.len.result versions past) c.soa-soa.ensures.set
