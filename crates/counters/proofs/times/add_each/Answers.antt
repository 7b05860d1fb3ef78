use Rattle.std.proofs.Common.{◌<◌, length, arith}
use Rattle.counters.proofs.SumLemmas.{sums_more, sums_rest}
use Rattle.counters.proofs.times.add_each.Goals as goal

pub loop-place-preserved : goal.loop-place-preserved
loop-place-preserved c =
    let within : c.loop-place.place < length c.loop-place.numbers = omega arith in
    record {
      before = sums_more _ _ _ _ _ c.add_at.ensures within c.loop-place.invariant.before c.loop-place.invariant.after;
      after = sums_rest _ _ _ _ _ c.add_at.ensures c.loop-place.invariant.after;
    }
