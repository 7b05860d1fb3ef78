-- The results so far and those of the updates that are left, with the verdicts that are left, are all.
use Rattle.std.proofs.Common.{◌≡◌, ◌++◌}
use Rattle.std.specs.Vec.Iter.{into_iter_items}
use Rattle.zone_server.specs.UpdateResult.{queued_results}
use Rattle.test_server.proofs.batches.results_of.Given as goal

abbrev pub invariant-loop-update : goal.invariant-loop-update
invariant-loop-update l =
    l.results.items ++ queued_results l.number l.left (into_iter_items l.update-iterator) ≡ queued_results l.number l.fn.verdicts l.fn.requests.items
