-- The tasks so far are begun.
use Rattle.std.proofs.Common.{◌≡◌, ◌+◌, ◌++◌, ◌≤◌, vec_len, vec_capacity, MatchResult}
use Rattle.std.specs.Vec.Iter.{into_iter_len, into_iter_items}
use Rattle.worker_jobs.specs.GivenBack.{Each, IsReturned}
use Rattle.worker_jobs.proofs.workers.start_threads.Given as goal

abbrev pub invariant-loop-work : goal.invariant-loop-work
invariant-loop-work g l = record {
  left : l.yielded ++ into_iter_items l.work-iterator ≡ l.fn.tasks.items;
  count : vec_len l.begun + into_iter_len l.work-iterator ≡ vec_len l.fn.tasks;
  room : vec_len l.fn.tasks ≤ vec_capacity l.begun;
  begun : Each (λ given one. MatchResult one (λ handle. (handle.promise.may.now.id ≡ l.may.id) × (handle.promise.work.value ≡ given)) (λ back. IsReturned g.W.Task.number g.W.Task.seen g.W.Task.is_done l.may.id given back.reported.of back.reported.value back.work)) l.yielded l.begun.items;
}
