use Rattle.std.proofs.Common.{All, subst, ◌∙◌, arith}
use Rattle.std.proofs.lemmas.List.{take_all}
use Rattle.std.proofs.lemmas.List.Elements.{All-more}
use Rattle.dns_rdata.specs.Raw.{RawRecord}
use Rattle.zone_tree.specs.Zone.{rrset_of}
use Rattle.update_core.specs.Ordered.{LeadsOn}
use Rattle.update_core.proofs.LeadLemmas.{lead_if}
use Rattle.update_core.proofs.ordered.do_all_lead_on.Goals as goal

-- the record in hand leads on
pub loop-one-preserved : goal.loop-one-preserved
loop-one-preserved g c =
    let zone = g.Z.ZoneRead.records c.args.zone.now in
    let list = c.args.list.now in
    let leads = lead_if _ _ _ _ c.leads_on.ensures c.if-not-leads_on.false in
    All-more (λ r. LeadsOn (rrset_of zone r.owner r.rtype) list r) list c.loop-one.one-index c.one-item.result (omega arith) c.loop-one.invariant
    (subst (λ (r : RawRecord). LeadsOn (rrset_of zone r.owner r.rtype) list r) (c.one.view_is ∙ c.one-item.is) leads)

-- no record is left
pub returns : goal.returns
returns g c =
    let zone = g.Z.ZoneRead.records c.args.zone.now in
    let list = c.args.list.now in
    subst (λ rs. All (λ r. LeadsOn (rrset_of zone r.owner r.rtype) list r) rs) (take_all c.loop-one.one-index list (omega arith)) c.loop-one.invariant
