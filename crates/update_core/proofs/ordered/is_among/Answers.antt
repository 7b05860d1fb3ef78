use Rattle.std.proofs.Common.{sym, ap, ◌∙◌}
use Rattle.dns_rdata.specs.Record.{owner_of, rtype_of, ttl_of, has_data}
use Rattle.update_core.proofs.LeadLemmas.{is_among_by}
use Rattle.update_core.proofs.ordered.is_among.Goals as goal

pub returns : goal.returns
returns c =
    let set = c.args.set.now in
    c.is_some.ensures ∙ is_among_by (owner_of set) (rtype_of set) (ttl_of set) c.args.octets.now c.data.result.now c.place_of.result c.place_of.ensures
    ∙ ap (λ rs. has_data rs c.args.octets.now) (sym c.data.ensures.records)
