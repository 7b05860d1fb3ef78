use Rattle.std.proofs.Common.{◌∷◌, [], map, ap, ◌∙◌}
use Rattle.dns_rdata.specs.Record.{owner_of, rtype_of, ttl_of}
use Rattle.zone_change.specs.Change.{standing}
use Rattle.zone_change.proofs.UpdateLemmas.{one_standing}
use Rattle.zone_change.proofs.update.condition_of.Goals as goal

pub returns : goal.returns
returns c =
    let soa = c.soa-soa.result.now in
    ap (λ r. r ∷ []) c.in_ok-raw.ensures
    ∙ one_standing soa (owner_of soa) (rtype_of soa) (ttl_of soa) c.data.result.now c.index-data-0.result c.data.ensures.records c.soa-soa.ensures.one c.index-data-0.is
    ∙ ap (map standing) c.soa-soa.ensures.set
