-- Behind the SOA the list is that from the root and type 0 on.
use Rattle.std.proofs.Common.{◌-◌, drop, length, sym, ap, ◌∙◌}
use Rattle.transfer_core.specs.Places.{zone_left}
use Rattle.transfer_core.proofs.PlaceLemmas.{zone_begins, one_more}
use Rattle.transfer_core.proofs.place.in_full.Goals as goal

pub returns : goal.returns
returns c = λ versions.
    let one = ap length (sym c.soa-soa.ensures.set) ∙ c.soa-soa.ensures.one in
    c.in_zone.ensures versions
    ∙ ap (λ name. drop (c.from-more.result - 1) (zone_left c.args.zone.now name 0)) c.root.ensures
    ∙ sym (zone_begins c.args.count (c.from-more.result - 1) c.args.zone.now one (one_more c.args.count c.from-more.result c.from-more.ensures c.if-count-eq0.false))
