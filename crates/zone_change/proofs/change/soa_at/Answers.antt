use Rattle.std.proofs.Common.{[], ◌∷◌, sym, ap, ◌∙◌}
use Rattle.dns_rdata.specs.Data.{Data}
use Rattle.dns_rdata.specs.Record.{Record, owner_of, rtype_of, ttl_of}
use Rattle.zone_tree.proofs.VersionLemmas.{rtype_of-soa}
use Rattle.update_core.specs.Act.{at_serial}
use Rattle.update_core.proofs.RowLemmas.{soa_with, if_ok_is}
use Rattle.zone_change.proofs.change.soa_at.Goals as goal

pub with_serial-requires : goal.with_serial-requires
with_serial-requires c =
    ap (λ (d : Data). d.rtype) c.index-data-0.is ∙ c.data.ensures.lawful.typed 0 c.index-data-0.result c.data.ensures.lawful.some
    ∙ rtype_of-soa c.args.zone.now c.soa-soa.result.now c.soa-soa.ensures.set c.soa-soa.ensures.one

pub returns-clause-set : goal.returns-clause-set
returns-clause-set c =
    let soa = c.soa-soa.result.now in
    let typed = rtype_of-soa c.args.zone.now soa c.soa-soa.ensures.set c.soa-soa.ensures.one in
    let whole = soa_with c.args.serial.0 soa (owner_of soa) (rtype_of soa) (ttl_of soa) c.data.result.now c.index-data-0.result c.data.ensures.records c.soa-soa.ensures.one c.index-data-0.is typed in
    let owner = sym c.owner.ensures.folded ∙ c.owner.ensures.of in
    let rtype = c.in_ok-rdata.ensures.rtype ∙ sym typed in
    let lasts = c.ttl.ensures.of in
    let octets = c.in_ok-rdata.ensures.octets in
    if_ok_is c.new.result _ (at_serial c.args.serial.0 _)
    ((λ i. let own : Record = record { owner = owner i; rtype = rtype i; ttl = lasts i; rdata = octets i } in own ∷ []) ∙ sym whole ∙ ap (at_serial c.args.serial.0) c.soa-soa.ensures.set) c.new.ensures
