use Rattle.std.proofs.Common.{bytes_eq, sym, ap, ◌∙◌}
use Rattle.std.specs.List.{list_any}
use Rattle.dns_rdata.specs.Data.{Data}
use Rattle.dns_rdata.specs.Record.{owner_of, rtype_of, ttl_of}
use Rattle.dns_rdata.specs.Raw.{RawRecord}
use Rattle.zone_tree.specs.Zone.{rrset_of}
use Rattle.update_core.specs.Ordered.{is_sought, is_of_whole}
use Rattle.update_core.proofs.LeadLemmas.{lacks_data, reported}
use Rattle.update_core.proofs.ordered.leads_on.Goals as goal

-- the set hasn't the record's data
pub returns-in_default-place_of : goal.returns-in_default-place_of
returns-in_default-place_of g c =
    let zone = g.Z.ZoneRead.records c.args.zone.now in
    let set = c.in-Some.set.now in
    let found = ap (λ (r : RawRecord). rrset_of zone r.owner r.rtype) (sym c.raw.view_is) ∙ sym c.in-Some.ensures.set ∙ c.data-all.ensures.records in
    let octets = ap (λ (r : RawRecord). r.octets) (sym c.raw.view_is) ∙ sym c.deref.ensures.value in
    ap (λ s. is_of_whole s c.args.list.now c.args.raw.now) found
    ∙ lacks_data (owner_of set) (rtype_of set) (ttl_of set) c.data-all.result.now c.args.list.now c.args.raw.now
    (ap (λ own. list_any (λ (d : Data). bytes_eq own d.octets) c.data-all.result.now) octets ∙ c.in_default-place_of.ensures)

-- whether the data behind was sent decides
pub returns : goal.returns
returns g c =
    let zone = g.Z.ZoneRead.records c.args.zone.now in
    let set = c.in-Some.set.now in
    let list = c.args.list.now in
    let next = c.index-all-place_behind.result in
    let found = ap (λ (r : RawRecord). rrset_of zone r.owner r.rtype) (sym c.raw.view_is) ∙ sym c.in-Some.ensures.set ∙ c.data-all.ensures.records in
    let octets = ap (λ (r : RawRecord). r.octets) (sym c.raw.view_is) ∙ sym c.deref.ensures.value in
    let said = c.is_sent.ensures ∙ ap (λ (r : RawRecord). list_any (is_sought r.owner r.rtype c.octets.result.now) list) c.raw.view_is
    ∙ ap (λ own. list_any (is_sought c.args.raw.now.owner c.args.raw.now.rtype own) list) c.octets.ensures.octets
    in
    reported (owner_of set) (rtype_of set) (ttl_of set) c.data-all.result.now c.data-all.ensures.lawful.ascending list c.args.raw.now c.in-Some-place_of.at c.place_behind.result next
    c.in-Some-place_of.ensures.0 (λ d. c.in-Some-place_of.ensures.1 d ∙ sym octets) c.place_behind.ensures.value c.place_behind.ensures.within c.index-all-place_behind.is
    c.is_sent.result said (rrset_of zone c.args.raw.now.owner c.args.raw.now.rtype) found
