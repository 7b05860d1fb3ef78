use Rattle.std.proofs.Common.{filter, ap, ◌∙◌}
use Rattle.dns_rdata.specs.Raw.{RawRecord}
use Rattle.zone_tree.specs.Zone.{rrsets_of}
use Rattle.update_core.specs.Applied.{may_go, removals}
use Rattle.update_core.proofs.RowEffects.{if_ok, name_of}
use Rattle.update_core.proofs.OverlayEdits.{removals_at_owner}
use Rattle.update_core.proofs.deletions.changes_of_name.Goals as goal

pub returns : goal.returns
returns c =
    let zone = c.args.zone.now.made in
    let sets = c.rrsets.result.now in
    record {
      of = if_ok c.removals.result
          (λ changes is. name_of zone c.args.raw.now c.requires.lawful c.requires.class c.requires.rtype sets (c.rrsets.ensures.records ∙ ap (rrsets_of zone) c.requires.at) c.rrsets.ensures.whole
          changes.items (is ∙ ap (λ (r : RawRecord). removals r.owner (filter (may_go zone r.owner) sets)) c.raw.view_is)) c.removals.ensures;
      at = if_ok c.removals.result (λ changes is. removals_at_owner c.args.raw.now c.raw.inside.owner (ap (λ (r : RawRecord). r.owner) c.raw.view_is) (filter (may_go zone c.raw.inside.owner) sets) changes.items is) c.removals.ensures;
    }
