use Rattle.std.proofs.Common.{◌==◌, ℕ, List, [], sym, ap, ◌∙◌}
use Rattle.std.specs.List.{flat_map}
use Rattle.dns_rdata.specs.declared.numbers.Rcode.TheVariants.{NoError, NxDomain}
use Rattle.dns_rdata.specs.Numbers.{type_ANY}
use Rattle.dns_rdata.specs.Record.{Record}
use Rattle.lookup_core.specs.Additional.{has_hosts}
use Rattle.lookup_core.specs.First.{alone}
use Rattle.lookup_core.specs.Look.{owned_by}
use Rattle.lookup_core.proofs.FirstLemmas.{neither, data_alone, no_data_alone, no_name_alone}
use Rattle.lookup_core.proofs.first.first_look.Goals as goal

-- data that name no host
pub returns-in-Data : goal.returns-in-Data
returns-in-Data g c =
    let zone = g.Z.ZoneRead.records c.args.zone.now in
    let none = neither (has_hosts c.args.rtype.0) (c.args.rtype.0 == type_ANY) (sym c.may_have_hosts.ensures ∙ c.if-not-may_have_hosts.true) in
    let shown = c.under.ensures.records ∙ ap (λ (n : List (List ℕ)). owned_by n (flat_map (λ set. set) c.in-Data.sets.now)) c.spelt.ensures in
    data_alone zone c.args.name.now c.args.rtype.0 _ none.0 none.1 (sym c.in-Data.ensures.look) ∙ ap (λ (rs : List Record). alone NoError rs []) (sym shown)

-- the name exists without such data
pub returns-in-NoData : goal.returns-in-NoData
returns-in-NoData g c =
    let zone = g.Z.ZoneRead.records c.args.zone.now in
    no_data_alone zone c.args.name.now c.args.rtype.0 (sym c.in-NoData.ensures.look) ∙ ap (λ (rs : List Record). alone NoError [] rs) (sym c.negative_of.ensures)

-- there is no such name
pub returns-in-NoName : goal.returns-in-NoName
returns-in-NoName g c =
    let zone = g.Z.ZoneRead.records c.args.zone.now in
    no_name_alone zone c.args.name.now c.args.rtype.0 (sym c.in-NoName.ensures.look) ∙ ap (λ (rs : List Record). alone NxDomain [] rs) (sym c.negative_of-in-NoName.ensures)
