-- The readers so far are put.
use Rattle.std.proofs.Common.{◌≡◌, ◌+◌, ◌++◌, ◌≤◌, Some, vec_len, vec_capacity, map}
use Rattle.std.specs.Vec.Iter.{into_iter_len, into_iter_items}
use Rattle.serve_workers.proofs.server_thread.put_readers.Given as goal

abbrev pub invariant-loop-thread : goal.invariant-loop-thread
invariant-loop-thread g l = record {
  left : l.yielded ++ into_iter_items l.thread-iterator ≡ l.fn.threads.items;
  room : vec_len l.readers + into_iter_len l.thread-iterator ≤ vec_capacity l.readers;
  capacity : vec_capacity l.readers ≡ vec_capacity l.initial.readers;
  readers : map (λ reader. Some reader) l.readers.items ≡ map (λ thread. thread.reader) l.yielded;
}
