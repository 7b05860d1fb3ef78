use Rattle.std.proofs.Common.{◌≡◌, sym, ap, ◌∙◌, rules}
use Rattle.dns_rdata.specs.Record.{ttl_of, has_data}
use Rattle.update_core.proofs.NoEffects.{by_true, joined_same}
use Rattle.update_core.proofs.additions.has_record.Goals as goal

pub returns-then-eq-clause-same : goal.returns-then-eq-clause-same
returns-then-eq-clause-same c =
    let own = c.args.own.now in
    let lasts : ttl_of own ≡ c.args.ttl.0 = search rules in
    let has = ap (has_data own) (sym c.octets.ensures.octets) in
    by_true c.is_among.result
    (λ there. joined_same own c.data-records.result.now c.args.rdata.now c.args.ttl.0 c.data-records.ensures.records c.data-records.ensures.lawful c.requires lasts (has ∙ sym c.is_among.ensures ∙ there))
