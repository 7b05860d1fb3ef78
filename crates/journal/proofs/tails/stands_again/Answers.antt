use Rattle.std.proofs.Common.{refl, arith}
use Rattle.std.specs.Int.{w64, to_be_bytes}
use Rattle.journal.specs.Tail.{BeginsMarked}
use Rattle.journal.proofs.PartLemmas.{not_so}
use Rattle.journal.proofs.TailLemmas.{no_mark_more, no_mark_at_all, from_place, to_place}
use Rattle.journal.proofs.tails.stands_again.Goals as goal

pub returns-then-begins_marked : goal.returns-then-begins_marked
returns-then-begins_marked c = (
  λ _. (
    c.loop-place.place,
    omega arith,
    from_place (BeginsMarked (to_be_bytes w64 c.args.mark)) c.args.octets.now c.loop-place.place (c.if-begins_marked.ensures.0 refl),
  ),
  λ _. refl,
)

pub loop-place-preserved : goal.loop-place-preserved
loop-place-preserved c = no_mark_more (to_be_bytes w64 c.args.mark) c.args.octets.now c.loop-place.place c.loop-place.invariant
    (λ marked. not_so (c.if-begins_marked.ensures.1 (to_place (BeginsMarked (to_be_bytes w64 c.args.mark)) c.args.octets.now c.loop-place.place marked)))

pub returns : goal.returns
returns c = (
  λ never. absurd (not_so never),
  λ again. absurd (no_mark_at_all (to_be_bytes w64 c.args.mark) c.args.octets.now c.loop-place.place (omega arith) (omega (arith, c.loop-place-test.false)) c.loop-place.invariant again),
)
