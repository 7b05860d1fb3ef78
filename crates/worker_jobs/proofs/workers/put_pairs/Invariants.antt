-- The pairs so far are put.
use Rattle.std.proofs.Common.{◌≡◌, ◌+◌, ◌++◌, ◌≤◌, vec_len, vec_capacity, map}
use Rattle.std.specs.Vec.Iter.{into_iter_len, into_iter_items}
use Rattle.worker_jobs.proofs.workers.put_pairs.Given as goal

abbrev pub invariant-loop-asked : goal.invariant-loop-asked
invariant-loop-asked g l = record {
  left : l.yielded ++ into_iter_items l.asked-iterator ≡ l.fn.done.items;
  room : vec_len l.back + into_iter_len l.asked-iterator ≤ vec_capacity l.back;
  pairs : l.back.items ≡ map (λ worker. (worker.asked.reader, worker.job)) l.yielded;
}
