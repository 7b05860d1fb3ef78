-- The results that are left hold, and what is outgoing so far with what they make is all.
use Rattle.std.proofs.Common.{◌≡◌, ◌≤◌, ◌+◌, ◌++◌, length, map}
use Rattle.std.specs.Prelude.{vec_len, vec_capacity}
use Rattle.std.specs.Vec.Iter.{drain_items}
use Rattle.zone_server.specs.UpdateResult.{AreResults}
use Rattle.zone_server.specs.Brought.{brought_for, brought_from, outgoing_for}
use Rattle.zone_server.proofs.server_state.ServerState.put_results.Given as goal

abbrev pub invariant-loop-one : goal.invariant-loop-one
invariant-loop-one g l = record {
  same : l.self ≡ l.fn.self;
  done : AreResults g.Z.FirstZone.zone l.self.held.published (drain_items l.one-iterator);
  put : l.outgoing.items ++ map outgoing_for (drain_items l.one-iterator) ≡ l.fn.outgoing.items ++ map outgoing_for l.fn.results.items;
  outgoing : map brought_from l.outgoing.items ++ map brought_for (drain_items l.one-iterator) ≡ map brought_from l.fn.outgoing.items ++ map brought_for l.fn.results.items;
  room : vec_capacity l.outgoing ≡ vec_capacity l.fn.outgoing;
  few : vec_len l.outgoing + length (drain_items l.one-iterator) ≤ vec_capacity l.fn.outgoing;
}
