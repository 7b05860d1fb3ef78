use Rattle.std.proofs.Common.{ap, sym, ◌∙◌, ℕ, subst}
use Rattle.counted_handles.specs.Calls.{HasFound}
use Rattle.snapshot_cell.specs.Tokens.{published_in}
use Rattle.snapshot_cell.proofs.TokenLemmas.{publisher_found}
use Rattle.snapshot_cell.proofs.cell.Cell.count.Goals as goal

pub invariant_of-publisher : goal.invariant_of-publisher
invariant_of-publisher g c =
    let before = c.publisher.inside in
    let inv = c.publisher.invariant in
    let call = c.find_free-free in
    let number = c.number-publisher-inside in
    publisher_found g.C.Names.begins g.C.Follows.follows before.badge.table_id call.new.badge.table_id before.badge.id call.new.badge.id before.badge.views call.new.badge.views before.spare.table_id before.spare.views before.number before.last.value before.readers before.noted number.result inv call.ensures.badge.0 call.ensures.badge.1
    (subst (λ (n : ℕ). HasFound inv.publishing n call.new.badge.views) (sym number.ensures) (call.ensures.found inv.publishing (inv.views_are, inv.how, inv.whole)))

pub returns : goal.returns
returns g c =
    let inv = c.publisher.invariant in
    let call = c.find_free-free in
    let has = call.ensures.found inv.publishing (inv.views_are, inv.how, inv.whole) in
    let is = c.publisher.view_is in
    let cell = call.ensures.badge.0 ∙ ap (λ s. s.cell) is in
    let published = ap published_in has.views_are ∙ sym (ap published_in inv.views_are) ∙ ap (λ s. s.published) is in
    λ i. record { cell = cell i; published = published i; number = (is i).number; value = (is i).value; readers = (is i).readers; noted = (is i).noted; ready = c.number-publisher-inside.ensures i }
