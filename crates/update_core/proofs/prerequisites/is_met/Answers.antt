use Rattle.std.proofs.Common.{not, refl, sym, ap, ◌∙◌}
use Rattle.dns_rdata.specs.Record.{owner_of, rtype_of, ttl_of}
use Rattle.dns_rdata.specs.Raw.{RawRecord}
use Rattle.zone_tree.specs.Zone.{rrset_of}
use Rattle.update_core.proofs.ListLemmas.{by_left, not_left}
use Rattle.update_core.proofs.VerdictLemmas.{is_met-data, is_met-none}
use Rattle.update_core.proofs.prerequisites.is_met.Goals as goal

-- the set has what was sent, and whether all that it has was sent decides
pub returns-then-has_all_sent : goal.returns-then-has_all_sent
returns-then-has_all_sent g c =
    let zone = g.Z.ZoneRead.records c.args.zone.now in
    let set = c.in-Some.set.now in
    let found = ap (λ (r : RawRecord). rrset_of zone r.owner r.rtype) (sym c.raw.view_is) ∙ sym c.in-Some.ensures.set ∙ c.data-all.ensures.records in
    let met = is_met-data zone c.args.raws.now c.args.raw.now (owner_of set) (rtype_of set) (ttl_of set) c.data-all.result.now found in
    c.is_all_sent.ensures ∙ sym (by_left _ _ _ met (sym c.has_all_sent.ensures ∙ c.if-has_all_sent.true))

-- the set hasn't all that was sent
pub returns-else-has_all_sent : goal.returns-else-has_all_sent
returns-else-has_all_sent g c =
    let zone = g.Z.ZoneRead.records c.args.zone.now in
    let set = c.in-Some.set.now in
    let found = ap (λ (r : RawRecord). rrset_of zone r.owner r.rtype) (sym c.raw.view_is) ∙ sym c.in-Some.ensures.set ∙ c.data-all.ensures.records in
    let met = is_met-data zone c.args.raws.now c.args.raw.now (owner_of set) (rtype_of set) (ttl_of set) c.data-all.result.now found in
    c.if-has_all_sent.false ∙ sym (not_left _ _ _ met (sym c.has_all_sent.ensures ∙ c.if-has_all_sent.false))

-- there is no set
pub returns-in-None : goal.returns-in-None
returns-in-None g c =
    let zone = g.Z.ZoneRead.records c.args.zone.now in
    let none = ap (λ (r : RawRecord). rrset_of zone r.owner r.rtype) (sym c.raw.view_is) ∙ c.in-None.ensures.none.0 refl in
    ap not c.is_repeated.ensures ∙ sym (is_met-none zone c.args.raws.now c.args.raw.now none)
