use Rattle.std.proofs.Common.{◌∙◌, sym, ap, arith}
use Rattle.std.specs.List.{list_any, flat_map}
use Rattle.dns_rdata.specs.declared.shown.Shown.{Shown}
use Rattle.lookup_core.specs.Additional.{is_same_set}
use Rattle.lookup_core.proofs.AdditionalLemmas.{any_flat_at, any_flat_none}
use Rattle.lookup_core.proofs.additional.Additional.has.Goals as goal

-- the entry in hand has it
pub returns-then-holds : goal.returns-then-holds
returns-then-holds c =
    let p = is_same_set c.args.set.now in
    sym
    (ap (list_any p) (sym c.self.view_is) ∙ ap (λ xs. list_any p (flat_map (λ (shown : Shown). shown.sets.now) xs)) (sym c.as_slice-shown-items.ensures.value)
    ∙ any_flat_at p (λ (shown : Shown). shown.sets.now) c.as_slice-shown-items.result.now c.loop-shown.shown-index c.shown-item.result (omega arith)
    (ap (λ (shown : Shown). list_any p shown.sets.now) (sym c.shown-item.is) ∙ sym c.holds.ensures ∙ c.if-holds.true))

-- all entries were seen
pub returns : goal.returns
returns c =
    let p = is_same_set c.args.set.now in
    sym
    (ap (list_any p) (sym c.self.view_is) ∙ ap (λ xs. list_any p (flat_map (λ (shown : Shown). shown.sets.now) xs)) (sym c.as_slice-shown-items.ensures.value)
    ∙ any_flat_none p (λ (shown : Shown). shown.sets.now) c.as_slice-shown-items.result.now c.loop-shown.shown-index (omega arith) c.loop-shown.invariant)
