-- The readers so far have their jobs.
use Rattle.std.proofs.Common.{◌≡◌, ◌+◌, ◌++◌, ◌≤◌, length, Some, vec_len, vec_capacity, map}
use Rattle.std.specs.Vec.Iter.{into_iter_len, into_iter_items, drain_items}
use Rattle.serve_workers.proofs.server_thread.put_threads.Given as goal

abbrev pub invariant-loop-reader : goal.invariant-loop-reader
invariant-loop-reader g l = record {
  jobs : map (λ thread. thread.job) l.threads.items ++ into_iter_items l.jobs ≡ l.fn.jobs.items;
  readers : map (λ thread. thread.reader) l.threads.items ++ map (λ reader. Some reader) (drain_items l.reader-iterator) ≡ map (λ reader. Some reader) l.fn.readers.items;
  same : into_iter_len l.jobs ≡ length (drain_items l.reader-iterator);
  room : vec_len l.threads + into_iter_len l.jobs ≤ vec_capacity l.threads;
}
