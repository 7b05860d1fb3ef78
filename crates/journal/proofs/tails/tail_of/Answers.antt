use Rattle.std.proofs.Common.{List, ℕ, arith}
use Rattle.journal.specs.Frame.{mark_of}
use Rattle.journal.specs.Private.{IsDigested}
use Rattle.journal.specs.Tail.{ShowsLater}
use Rattle.journal.proofs.PartLemmas.{not_so}
use Rattle.journal.proofs.TailLemmas.{none_at_all, few_searched, more_searched, from_place, to_place}
use Rattle.journal.proofs.tails.tail_of.Goals as goal

pub returns-clause-tail : goal.returns-clause-tail
returns-clause-tail c = (λ blank. not_so (c.if-is_blank.ensures.1 blank), none_at_all c.args.salt.now c.args.next c.args.rest.now c.loop-at.at (omega arith) c.loop-at.invariant.none)

pub returns-then-shows_later-clause-count : goal.returns-then-shows_later-clause-count
returns-then-shows_later-clause-count c =
    few_searched c.args.salt.now c.args.next c.args.rest.now c.args.digested.now c.loop-at.digested c.shows_later.new.digested c.loop-at.at c.loop-at-test.true c.loop-at.invariant
    (from_place (λ (o : List ℕ). IsDigested (mark_of c.args.salt.now) o c.loop-at.digested c.shows_later.new.digested) c.args.rest.now c.loop-at.at c.if-shows_later.ensures.count)

pub loop-at-preserved : goal.loop-at-preserved
loop-at-preserved c =
    more_searched c.args.salt.now c.args.next c.args.rest.now c.args.digested.now c.loop-at.digested c.shows_later.new.digested c.loop-at.at c.loop-at-test.true c.loop-at.invariant
    (λ shown. not_so (c.if-shows_later.ensures.shows.1 (to_place (ShowsLater c.args.salt.now c.args.next) c.args.rest.now c.loop-at.at shown)))
    (from_place (λ (o : List ℕ). IsDigested (mark_of c.args.salt.now) o c.loop-at.digested c.shows_later.new.digested) c.args.rest.now c.loop-at.at c.if-shows_later.ensures.count)
