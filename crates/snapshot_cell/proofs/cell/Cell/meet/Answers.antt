use Rattle.std.proofs.Common.{refl, ap, sym, ◌∙◌, subst, None, arith}
use Rattle.snapshot_cell.specs.Tokens.{seen_in, gone_in, published_in}
use Rattle.counted_handles.specs.Calls.{gave_back}
use Rattle.counted_handles.specs.Ruled.{Begins}
use Rattle.snapshot_cell.proofs.TokenLemmas.{publisher_as}
use Rattle.snapshot_cell.proofs.cell.Cell.meet.Goals as goal

pub invariant_of-publisher : goal.invariant_of-publisher
invariant_of-publisher g c =
    let before = c.publisher.inside in
    let inv = c.publisher.invariant in
    let reads = c.reader.invariant in
    let reported = c.meet.ensures.met inv.publishing reads.reading (inv.views_are, inv.whole, inv.none_left) (reads.views_are, reads.whole) in
    publisher_as g.C.Names.begins g.C.Follows.follows before.badge.table_id c.meet.new.badge.table_id before.badge.id c.meet.new.badge.id before.badge.views c.meet.new.badge.views before.spare.table_id before.spare.views before.number before.last.value before.readers before.noted before.noted inv c.meet.ensures.badges.0 c.meet.ensures.badges.1 (gave_back inv.publishing) reported.views_are refl refl refl refl refl (omega (arith, inv.readers_are)) inv.noted_is inv.few refl

pub returns-clause-met : goal.returns-clause-met
returns-clause-met g c =
    let inv = c.publisher.invariant in
    let reads = c.reader.invariant in
    let reported = c.meet.ensures.met inv.publishing reads.reading (inv.views_are, inv.whole, inv.none_left) (reads.views_are, reads.whole) in
    let cell = c.meet.ensures.badges.2 ∙ c.self.view_is in
    let seen = ap seen_in reported.reader_is ∙ sym (ap published_in inv.views_are) ∙ sym (ap (λ s. s.published) (sym c.publisher.view_is)) in
    let left = ap (λ s. s.left) c.reader.view_is in
    let gone = ap gone_in reported.reader_is ∙ sym (ap gone_in reads.views_are) ∙ ap (λ s. s.gone) c.reader.view_is in
    λ i. record { cell = cell i; seen = seen i; left = left i; gone = gone i }

pub returns-clause-begun : goal.returns-clause-begun
returns-clause-begun g c =
    let inv = c.publisher.invariant in
    let reads = c.reader.invariant in
    let reported = c.meet.ensures.met inv.publishing reads.reading (inv.views_are, inv.whole, inv.none_left) (reads.views_are, reads.whole) in
    let seen = sym (ap seen_in reads.views_are) ∙ ap (λ s. s.seen) c.reader.view_is in
    let published = sym (ap published_in inv.views_are) ∙ ap (λ s. s.published) c.publisher.view_is in
    subst (λ l. Begins l c.args.publisher.now.published) seen (subst (Begins reads.reading.seen) published reported.begun)

pub returns-clause-same : goal.returns-clause-same
returns-clause-same g c =
    let before = c.publisher.inside in
    let inv = c.publisher.invariant in
    let reads = c.reader.invariant in
    let reported = c.meet.ensures.met inv.publishing reads.reading (inv.views_are, inv.whole, inv.none_left) (reads.views_are, reads.whole) in
    let published = ap published_in reported.views_are ∙ sym (ap published_in inv.views_are) in
    (λ i. record { cell = c.meet.ensures.badges.0 i; published = published i; number = before.number; value = before.last.value; readers = before.readers; noted = before.noted; ready = before.ready }) ∙ c.publisher.view_is

pub invariant_of-reader : goal.invariant_of-reader
invariant_of-reader g c =
    let inv = c.publisher.invariant in
    let reads = c.reader.invariant in
    let reported = c.meet.ensures.met inv.publishing reads.reading (inv.views_are, inv.whole, inv.none_left) (reads.views_are, reads.whole) in
    record {
      reading = record { seen = inv.publishing.published; share = None; left = reads.reading.left; gone = reads.reading.gone; name = inv.publishing.name };
      views_are = reported.reader_is;
      whole = refl;
      left_is = reads.left_is;
      name_is = inv.name_is ∙ ap (λ z. z.views_name) (ap (λ s. s.cell) c.publisher.view_is ∙ c.requires.0 ∙ sym (c.meet.ensures.badges.2 ∙ c.self.view_is));
    }
