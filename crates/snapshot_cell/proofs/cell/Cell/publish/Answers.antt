use Rattle.std.proofs.Common.{◌+◌, ◌-◌, ◌∷◌, ◌++◌, [], ap, sym, ◌∙◌, subst}
use Rattle.snapshot_cell.specs.Tokens.{published_in, IsPublisher}
use Rattle.snapshot_cell.proofs.HistoryLemmas.{history_next}
use Rattle.snapshot_cell.proofs.TokenLemmas.{publisher_next, none_ready, if_err}
use Rattle.snapshot_cell.proofs.cell.Cell.publish.Goals as goal

pub publish-requires-clause-due : goal.publish-requires-clause-due
publish-requires-clause-due g c =
    let before = c.publisher.inside in
    let inv = c.publisher.invariant in
    let may = subst (λ s. g.C.Follows.follows s.value c.args.value) (sym c.publisher.view_is) c.requires.follows in
    let cell = sym (ap (λ s. s.cell) (sym c.publisher.view_is)) ∙ c.requires.cell ∙ (sym c.self.view_is) in
    (inv.publishing, (inv.views_are, inv.how, inv.whole), inv.last, inv.name_is ∙ ap (λ z. z.views_name) cell, history_next g.C.Names.begins g.C.Follows.follows inv.publishing.published before.number before.last.value c.args.value inv.history inv.last inv.value_is may)

pub invariant_of-publisher-2 : goal.invariant_of-publisher-2
invariant_of-publisher-2 g c =
    let before = c.publisher.inside in
    let inv = c.publisher.invariant in
    let may = subst (λ s. g.C.Follows.follows s.value c.args.value) (sym c.publisher.view_is) c.requires.follows in
    let newer = c.in_ok-old.ensures.published inv.publishing (inv.views_are, inv.how, inv.whole) in
    let made = publisher_next g.C.Names.begins g.C.Follows.follows before.badge.table_id c.publish.new.badge.table_id before.badge.id c.publish.new.badge.id before.badge.views c.publish.new.badge.views before.spare.table_id before.spare.views before.number before.last.value c.args.value before.readers before.noted inv c.publish.ensures.badge.0 c.publish.ensures.badge.1 may newer in
    subst (λ v. IsPublisher g.C.Names.begins g.C.Follows.follows c.publish.new.badge.table_id c.publish.new.badge.id c.publish.new.badge.views before.spare.table_id before.spare.views (before.number + 1) v before.readers before.noted c.saturating_sub-publisher-inside.result) (sym c.of-last.ensures)
    (subst (λ n. IsPublisher g.C.Names.begins g.C.Follows.follows c.publish.new.badge.table_id c.publish.new.badge.id c.publish.new.badge.views before.spare.table_id before.spare.views (before.number + 1) c.args.value before.readers before.noted n) (sym c.saturating_sub-publisher-inside.ensures) made)

pub returns-clause-published : goal.returns-clause-published
returns-clause-published g c =
    let before = c.publisher.inside in
    let inv = c.publisher.invariant in
    let newer = c.in_ok-old.ensures.published inv.publishing (inv.views_are, inv.how, inv.whole) in
    let is = c.publisher.view_is in
    let cell = c.publish.ensures.badge.0 ∙ ap (λ s. s.cell) is in
    let published = ap published_in newer.2 ∙ ap (λ l. l ++ c.args.value ∷ []) (sym (ap published_in inv.views_are) ∙ ap (λ s. s.published) is) in
    let ready = c.saturating_sub-publisher-inside.ensures ∙ ap (λ s. s.ready - 1) is in
    λ i. record { cell = cell i; published = published i; number = ap (λ s. s.number + 1) is i; value = c.of-last.ensures i; readers = ap (λ s. s.readers) is i; noted = ap (λ s. s.noted) is i; ready = ready i }

pub returns-in_err-old-clause-none_ready : goal.returns-in_err-old-clause-none_ready
returns-in_err-old-clause-none_ready g c =
    let before = c.publisher.inside in
    let inv = c.publisher.invariant in
    if_err c.from_residual.result (sym (ap (λ s. s.ready) c.publisher.view_is) ∙ none_ready inv.publishing before.ready inv.found (c.in_err-old.ensures.none_found inv.publishing (inv.views_are, inv.how, inv.whole)))
