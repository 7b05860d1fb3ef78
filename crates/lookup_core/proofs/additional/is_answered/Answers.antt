use Rattle.std.proofs.Common.{◌∙◌, sym, ap, arith}
use Rattle.std.specs.List.{list_any}
use Rattle.dns_rdata.specs.Record.{owner_of, rtype_of}
use Rattle.dns_rdata.specs.Shown.{records_shown}
use Rattle.zone_tree.specs.Zone.{is_of}
use Rattle.lookup_core.proofs.AdditionalLemmas.{any_flat_at, any_flat_none}
use Rattle.lookup_core.proofs.additional.is_answered.Goals as goal

-- the entry in hand shows them
pub returns-then-shows : goal.returns-then-shows
returns-then-shows c =
    let p = is_of (owner_of c.args.set.now) (rtype_of c.args.set.now) in
    sym
    (any_flat_at p records_shown c.args.answer.now c.loop-shown.shown-index c.shown-item.result (omega arith)
    (ap (λ shown. list_any p (records_shown shown)) (sym c.shown-item.is) ∙ sym c.shows.ensures ∙ c.if-shows.true))

-- all entries were seen
pub returns : goal.returns
returns c =
    sym (any_flat_none (is_of (owner_of c.args.set.now) (rtype_of c.args.set.now)) records_shown c.args.answer.now c.loop-shown.shown-index (omega arith) c.loop-shown.invariant)
