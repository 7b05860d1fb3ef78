use Rattle.std.proofs.Common.{◌≡◌, ◌+◌, ◌++◌, length}
use Rattle.std.specs.Vec.Iter.{into_iter_items}
use Rattle.zone_tree.specs.Version.{Version}
use Rattle.update_batches.specs.Engine.{IsLast, AreMade}
use Rattle.update_batches.specs.Batch.{versions_in}
use Rattle.zone_server.proofs.server_state.ServerState.publish_all.Given as goal

abbrev pub invariant-loop-update : goal.invariant-loop-update
invariant-loop-update g l = record {
  left : l.yielded ++ into_iter_items l.update-iterator ≡ l.fn.updates.items;
  published : l.self.held.published ≡ l.fn.self.held.published ++ versions_in l.yielded;
  reserved : l.right.reserved.amount + length l.yielded ≡ l.fn.right.reserved.amount;
  made : (first : Version) × IsLast l.self.held.published first × AreMade first (versions_in (into_iter_items l.update-iterator));
}
