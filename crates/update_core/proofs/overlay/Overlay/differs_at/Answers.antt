use Rattle.std.proofs.Common.{List, subst, ap, ◌∙◌}
use Rattle.dns_rdata.specs.Record.{Record}
use Rattle.zone_tree.specs.Zone.{rrsets_of}
use Rattle.zone_tree.specs.Sets.{AreWhole}
use Rattle.update_core.specs.Overlay.{Overlaid}
use Rattle.update_core.proofs.RowLemmas.{sets_differ}
use Rattle.update_core.proofs.OverlayLooks.{whole_found}
use Rattle.update_core.proofs.overlay.Overlay.differs_at.Goals as goal

pub returns : goal.returns
returns c =
    let made = c.args.self.now.made in
    let base = c.args.self.now.base in
    let owner = c.args.owner.now in
    let is = ap (λ (v : Overlaid). v.base) c.self.view_is in
    let stored = c.stored_sets.result.now in
    let there = c.stored_sets.ensures.records ∙ (λ i. rrsets_of (is i) (c.name.ensures i)) in
    let whole = subst (λ (z : List Record). AreWhole z stored) is c.stored_sets.ensures.whole in
    sets_differ made base owner c.sets_at.result.now stored c.sets_at.ensures.records (whole_found made owner c.sets_at.result.now c.sets_at.ensures.own c.sets_at.ensures.records) there whole
    c.are_same.result c.are_same.ensures
