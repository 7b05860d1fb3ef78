use Rattle.std.proofs.Common.{◌≡◌, ◌∙◌, ◌+◌, ◌-◌, ◌/◌, ◌<◌, ap, arith, length}
use Rattle.std.specs.declared.cmp.Ordering.TheVariants.{Less, Equal, Greater}
use Rattle.shared_tree.proofs.RunLemmas.{none_behind, run_lesser, run_greater, pair_is}
use Rattle.shared_tree.proofs.look.place_in.Goals as goal

-- nothing stands behind the run
pub loop-low-init : goal.loop-low-init
loop-low-init g c = record { low = omega arith; high = omega arith; lesser = tt; greater = none_behind g.K.Ord.cmp (g.Q.Seek.key c.args.sought.now) c.args.run.now }

-- the keys from the middle on are greater
pub loop-low-preserved-in-Less : goal.loop-low-preserved-in-Less
loop-low-preserved-in-Less g c =
    let key = g.Q.Seek.key c.args.sought.now in
    let middle = c.loop-low.low + (c.loop-low.high - c.loop-low.low) / 2 in
    let within : middle < length c.args.run.now = omega arith in
    let e : g.K.Ord.cmp key c.index-run-middle.result.pair.value.0 ≡ Less = cc in
    record {
      low = omega arith;
      high = omega arith;
      lesser = c.loop-low.invariant.lesser;
      greater = run_greater c.args.run.now middle c.index-run-middle.result within c.index-run-middle.is g.met.K.Ord.total key c.requires.ascends e;
    }

-- the key's pair is in the middle
pub returns-in-Equal-clause-position : goal.returns-in-Equal-clause-position
returns-in-Equal-clause-position g c =
    let key = g.Q.Seek.key c.args.sought.now in
    let middle = c.loop-low.low + (c.loop-low.high - c.loop-low.low) / 2 in
    let within : middle < length c.args.run.now = omega arith in
    let e : g.K.Ord.cmp key c.index-run-middle.result.pair.value.0 ≡ Equal = cc in
    λ d. ap (λ (x : g.row.K.Denot × g.row.V.Denot). g.K.Ord.cmp key x.0) (pair_is c.args.run.now middle c.index-run-middle.result within c.index-run-middle.is d) ∙ e

-- the keys to the middle are lesser
pub loop-low-preserved : goal.loop-low-preserved
loop-low-preserved g c =
    let key = g.Q.Seek.key c.args.sought.now in
    let middle = c.loop-low.low + (c.loop-low.high - c.loop-low.low) / 2 in
    let within : middle < length c.args.run.now = omega arith in
    let e : g.K.Ord.cmp key c.index-run-middle.result.pair.value.0 ≡ Greater = cc in
    record {
      low = omega arith;
      high = c.loop-low.invariant.high;
      lesser = run_lesser c.args.run.now middle c.index-run-middle.result within c.index-run-middle.is g.met.K.Ord.total key c.requires.ascends e;
      greater = c.loop-low.invariant.greater;
    }

-- nothing is left between them
pub returns-clause-position : goal.returns-clause-position
returns-clause-position g c =
    let same : c.loop-low.high ≡ c.loop-low.low = omega arith in
    (c.loop-low.invariant.lesser, rw same at c.loop-low.invariant.greater)
