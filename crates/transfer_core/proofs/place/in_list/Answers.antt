-- Behind the SOA the list is that from the first version's first set on.
use Rattle.std.proofs.Common.{◌-◌, length, sym, ap, ◌∙◌}
use Rattle.zone_tree.specs.Zone.{soa_of}
use Rattle.transfer_core.proofs.PlaceLemmas.{told_begins, one_more}
use Rattle.transfer_core.proofs.place.in_list.Goals as goal

pub returns : goal.returns
returns g c =
    let one = ap length (sym c.soa-soa.ensures.set) ∙ c.soa-soa.ensures.one in
    c.in_changes.ensures
    ∙ sym (told_begins c.args.count (c.from-more.result - 1) (soa_of c.args.zone.now) (g.C.VersionList.versions c.args.chain.now) one (one_more c.args.count c.from-more.result c.from-more.ensures c.if-count-eq0.false))
