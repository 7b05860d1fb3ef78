use Rattle.std.proofs.Common.{◌∙◌, sym, ap, arith}
use Rattle.std.specs.List.{list_any}
use Rattle.dns_rdata.specs.Record.{Record}
use Rattle.dns_rdata.specs.Shown.{records_shown}
use Rattle.lookup_core.specs.Additional.{has_hosts}
use Rattle.lookup_core.proofs.AdditionalLemmas.{any_flat_at, any_flat_none}
use Rattle.lookup_core.proofs.additional.may_name_hosts.Goals as goal

-- the entry in hand shows them
pub returns-then-may_show_hosts : goal.returns-then-may_show_hosts
returns-then-may_show_hosts c =
    let p = λ (r : Record). has_hosts r.rtype in
    sym
    (any_flat_at p records_shown c.args.section.now c.loop-shown.shown-index c.shown-item.result (omega arith)
    (ap (λ shown. list_any p (records_shown shown)) (sym c.shown-item.is) ∙ sym c.may_show_hosts.ensures ∙ c.if-may_show_hosts.true))

-- all entries were seen
pub returns : goal.returns
returns c = sym (any_flat_none (λ (r : Record). has_hosts r.rtype) records_shown c.args.section.now c.loop-shown.shown-index (omega arith) c.loop-shown.invariant)
