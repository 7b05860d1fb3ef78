-- The pairs so far are put.
use Rattle.std.proofs.Common.{◌≡◌, ◌+◌, ◌≤◌, vec_len, vec_capacity, map}
use Rattle.std.specs.Vec.Iter.{into_iter_len}
use Rattle.worker_jobs.proofs.workers.put_workers.Given as goal

abbrev pub invariant-loop-reader : goal.invariant-loop-reader
invariant-loop-reader g l = record {
  room : vec_len l.tasks + into_iter_len l.reader-iterator ≤ vec_capacity l.tasks;
  pairs : map (λ worker. (worker.asked.reader, worker.job)) l.tasks.items ≡ l.yielded;
}
