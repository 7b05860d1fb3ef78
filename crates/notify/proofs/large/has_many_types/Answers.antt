use Rattle.std.proofs.Common.{◌≡◌, length, sym, ap, ◌∙◌, rules}
use Rattle.zone_tree.specs.Zone.{rrsets_of}
use Rattle.zone_tree.specs.Sets.{sets_in}
use Rattle.zone_tree.proofs.WalkLemmas.{sets_from_whole}
use Rattle.notify.proofs.large.has_many_types.Goals as goal

pub returns : goal.returns
returns g c =
    let zone = g.Z.ZoneRead.records c.args.zone.now in
    let are = sym (sets_from_whole zone c.rrsets_at.result.now c.rrsets_at.ensures.whole) ∙ ap sets_in c.rrsets_at.ensures.records in
    let same : length c.rrsets_at.result.now ≡ length (sets_in (rrsets_of zone c.args.owner.now)) = ap length are in
    search rules
