-- The results so far and those of the updates that are left, with the verdicts that are left, are all.
use Rattle.std.proofs.Common.{◌≡◌, ◌≤◌, ◌+◌, ◌++◌, length, take}
use Rattle.std.specs.Prelude.{vec_len, vec_capacity}
use Rattle.std.specs.Vec.Iter.{drain_items}
use Rattle.update_batches.specs.Results.{replies_to}
use Rattle.zone_server.specs.UpdateResult.{queued_results}
use Rattle.zone_server.proofs.server_publisher.take_results.Given as goal

abbrev pub invariant-loop-update : goal.invariant-loop-update
invariant-loop-update l = record {
  replied : l.replied.replies ++ replies_to l.left (drain_items l.update-iterator) ≡ l.fn.replied.replies ++ replies_to l.fn.verdicts (take l.fn.count l.fn.requests.items);
  results : l.results.items ++ queued_results l.least l.left (drain_items l.update-iterator) ≡ queued_results l.least l.fn.verdicts (take l.fn.count l.fn.requests.items);
  room : vec_capacity l.results ≡ vec_capacity l.fn.results;
  few : vec_len l.results + length (drain_items l.update-iterator) ≤ vec_capacity l.fn.results;
}
