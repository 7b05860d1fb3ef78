-- The connections under the keys so far are swept, and the others are as they were.
use Rattle.std.proofs.Common.{◌≡◌, ℕ, ◌<◌, ◌≤◌}
use Rattle.slab.specs.Slab.{get, slab_len}
use Rattle.tcp_connections.specs.Deadlines.{kept_at}
use Rattle.tcp_connections.specs.Ends.{AreCounted}
use Rattle.tcp_connections.proofs.deadlines.sweep.Given as goal

abbrev pub invariant-loop-key : goal.invariant-loop-key
invariant-loop-key g l = record {
  below : (k : ℕ) → k < l.key → get l.connections k ≡ kept_at l.limits l.now (get l.initial.connections k);
  above : (k : ℕ) → l.key ≤ k → get l.connections k ≡ get l.initial.connections k;
  ended : AreCounted l.initial.ends l.ends (slab_len l.initial.connections) (slab_len l.connections);
  capacity : l.connections.capacity ≡ l.initial.connections.capacity;
}
