-- Places have been taken and given back so far.
use Rattle.std.proofs.Common.{◌≡◌, ◌≤◌}
use Rattle.slab.specs.Slab.{slab_len}
use Rattle.tcp_loop.specs.Steps.{Moves}
use Rattle.tcp_loop.proofs.worker.EventLoop.take_all.Given as goal

abbrev pub invariant-loop-place : goal.invariant-loop-place
invariant-loop-place g l = record {
  moves : Moves g.S.Remote.origin g.S.Blocking.octets l.now l.initial.self.connections l.self.connections;
  time : g.P.Readiness.time l.poll ≡ g.P.Readiness.time l.initial.poll;
  places : l.self.places ≡ l.initial.self.places;
  few : slab_len l.initial.self.connections ≤ l.initial.self.places → slab_len l.self.connections ≤ l.self.places;
}
