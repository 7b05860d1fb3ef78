use Rattle.std.proofs.Common.{refl, ◌+◌, ◌<◌, ◌≤◌, ◌-◌, ap, sym, ◌∙◌, subst, arith}
use Rattle.cell_core.specs.Words.{notes}
use Rattle.snapshot_cell.specs.Tokens.{seen_in, gone_in, published_in}
use Rattle.counted_handles.specs.Calls.{gave_back}
use Rattle.counted_handles.specs.Ruled.{Begins}
use Rattle.snapshot_cell.proofs.TokenLemmas.{publisher_as, same_last}
use Rattle.snapshot_cell.proofs.cell.Cell.newest_with_weak.Goals as goal

pub newest_with_weak-requires-clause-can : goal.newest_with_weak-requires-clause-can
newest_with_weak-requires-clause-can g c =
    let inv = c.publisher.invariant in
    let reads = c.reader.invariant in
    let some : 0 < c.reader.inside.left = omega (arith, c.if-reader-eq0.false) in
    let few : c.publisher.inside.noted < notes = omega (arith, inv.few, c.if-publisher-eq-NOTES.false) in
    let name = inv.name_is ∙ ap (λ z. z.views_name) (ap (λ s. s.cell) c.publisher.view_is ∙ c.requires.0 ∙ sym c.self.view_is) in
    (inv.publishing, reads.reading, (inv.views_are, inv.whole, inv.none_left), (reads.views_are, reads.whole, omega (arith, some, reads.left_is)), name, omega (arith, few, inv.noted_is))

pub invariant_of-publisher : goal.invariant_of-publisher
invariant_of-publisher g c =
    let before = c.publisher.inside in
    let inv = c.publisher.invariant in
    let reads = c.reader.invariant in
    let call = c.newest_with_weak in
    let some : 0 < c.reader.inside.left = omega (arith, c.if-reader-eq0.false) in
    let few : before.noted + 1 ≤ notes = omega (arith, inv.few, c.if-publisher-eq-NOTES.false) in
    let reported = call.ensures.newest inv.publishing reads.reading (inv.views_are, inv.whole, inv.none_left) (reads.views_are, reads.whole, omega (arith, some, reads.left_is)) in
    publisher_as g.C.Names.begins g.C.Follows.follows before.badge.table_id call.new.badge.table_id before.badge.id call.new.badge.id before.badge.views call.new.badge.views before.spare.table_id before.spare.views before.number before.last.value before.readers before.noted (before.noted + 1) inv call.ensures.badges.0 call.ensures.badges.1
    (record (gave_back inv.publishing) { noted = inv.publishing.noted + 1 }) reported.views_are refl refl refl refl refl (omega (arith, inv.readers_are)) (ap (λ n. n + 1) inv.noted_is) few refl

pub returns-clause-newest : goal.returns-clause-newest
returns-clause-newest g c =
    let before = c.publisher.inside in
    let inv = c.publisher.invariant in
    let reads = c.reader.invariant in
    let call = c.newest_with_weak in
    let some : 0 < c.reader.inside.left = omega (arith, c.if-reader-eq0.false) in
    let reported = call.ensures.newest inv.publishing reads.reading (inv.views_are, inv.whole, inv.none_left) (reads.views_are, reads.whole, omega (arith, some, reads.left_is)) in
    let strong = same_last inv.publishing.published call.result.0.version before.number before.last.value reported.last.0 reported.last.1 inv.last inv.value_is in
    let cell = call.ensures.badges.2 ∙ c.self.view_is in
    let seen = ap seen_in reported.reader_is ∙ sym (ap published_in inv.views_are) ∙ sym (ap (λ s. s.published) (sym c.publisher.view_is)) in
    let left = ap (λ s. s.left - 1) c.reader.view_is in
    let gone = ap gone_in reported.reader_is ∙ sym (ap gone_in reads.views_are) ∙ ap (λ s. s.gone) c.reader.view_is in (
      strong ∙ (λ i. record { number = (c.publisher.view_is i).number; value = (c.publisher.view_is i).value }),
      (λ i. record { cell = cell i; seen = seen i; left = left i; gone = gone i }),
      omega (arith, some, ap (λ s. s.left) (sym c.reader.view_is)),
    )

pub returns-clause-begun : goal.returns-clause-begun
returns-clause-begun g c =
    let inv = c.publisher.invariant in
    let reads = c.reader.invariant in
    let some : 0 < c.reader.inside.left = omega (arith, c.if-reader-eq0.false) in
    let reported = c.newest_with_weak.ensures.newest inv.publishing reads.reading (inv.views_are, inv.whole, inv.none_left) (reads.views_are, reads.whole, omega (arith, some, reads.left_is)) in
    let seen = sym (ap seen_in reads.views_are) ∙ ap (λ s. s.seen) c.reader.view_is in
    let published = sym (ap published_in inv.views_are) ∙ ap (λ s. s.published) c.publisher.view_is in
    subst (λ l. Begins l c.args.publisher.now.published) seen (subst (Begins reads.reading.seen) published reported.begun)

pub returns-clause-noted : goal.returns-clause-noted
returns-clause-noted g c =
    let before = c.publisher.inside in
    let inv = c.publisher.invariant in
    let reads = c.reader.invariant in
    let call = c.newest_with_weak in
    let some : 0 < c.reader.inside.left = omega (arith, c.if-reader-eq0.false) in
    let reported = call.ensures.newest inv.publishing reads.reading (inv.views_are, inv.whole, inv.none_left) (reads.views_are, reads.whole, omega (arith, some, reads.left_is)) in
    let is = c.publisher.view_is in
    let cell = call.ensures.badges.0 ∙ ap (λ s. s.cell) is in
    let published = ap published_in reported.views_are ∙ sym (ap published_in inv.views_are) ∙ ap (λ s. s.published) is in
    let few : before.noted < notes = omega (arith, inv.few, c.if-publisher-eq-NOTES.false) in
    (λ i. record { cell = cell i; published = published i; number = (is i).number; value = (is i).value; readers = (is i).readers; noted = (is i).noted + 1; ready = (is i).ready }, subst (λ n. n < notes) (ap (λ s. s.noted) is) few)
