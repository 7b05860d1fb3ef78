-- One key behind the other, and none beyond the last slot.
use Rattle.std.proofs.Common.{refl, ◌∙◌, arith}
use Rattle.slab.specs.Slab.{get, slab_len}
use Rattle.tcp_connections.specs.Deadlines.{kept_at}
use Rattle.tcp_connections.proofs.LenLemmas.{counted_none, counted_then}
use Rattle.tcp_connections.proofs.SweepLemmas.{below_more, above_more}
use Rattle.tcp_connections.proofs.deadlines.sweep.Goals as goal

pub loop-key-init : goal.loop-key-init
loop-key-init g c = record {
  below = λ k within. absurd (omega (arith, within));
  above = λ k over. refl;
  ended = counted_none c.args.ends.now (slab_len c.args.connections.now) (slab_len c.args.connections.now) refl;
  capacity = refl;
}

pub loop-key-preserved : goal.loop-key-preserved
loop-key-preserved g c =
    let so_far = c.loop-key.invariant in
    record {
      below = below_more (kept_at c.args.limits c.args.now) (get c.args.connections.now) (get c.loop-key.connections) (get c.sweep_key.new.connections) c.loop-key.key so_far.below so_far.above c.sweep_key.ensures.own c.sweep_key.ensures.others;
      above = above_more (kept_at c.args.limits c.args.now) (get c.args.connections.now) (get c.loop-key.connections) (get c.sweep_key.new.connections) c.loop-key.key so_far.above c.sweep_key.ensures.others;
      ended = counted_then c.args.ends.now c.loop-key.ends c.sweep_key.new.ends (slab_len c.args.connections.now) (slab_len c.loop-key.connections) (slab_len c.sweep_key.new.connections) so_far.ended c.sweep_key.ensures.ended;
      capacity = c.sweep_key.ensures.capacity ∙ so_far.capacity;
    }
