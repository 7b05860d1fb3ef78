-- The tasks so far have come back.
use Rattle.std.proofs.Common.{◌≡◌, ◌+◌, ◌++◌, ◌≤◌, vec_len, vec_capacity, MatchResult}
use Rattle.std.specs.Vec.Iter.{into_iter_len, into_iter_items}
use Rattle.worker_jobs.specs.GivenBack.{Each, IsReturned}
use Rattle.worker_jobs.proofs.workers.end_all.Given as goal

abbrev pub invariant-loop-one : goal.invariant-loop-one
invariant-loop-one g l = record {
  left : l.yielded ++ into_iter_items l.one-iterator ≡ l.fn.begun.items;
  count : vec_len l.returned + into_iter_len l.one-iterator ≡ vec_len l.fn.begun;
  room : vec_len l.fn.begun ≤ vec_capacity l.returned;
  ended : Each (λ one back. MatchResult one (λ handle. IsReturned g.W.Task.number g.W.Task.seen g.W.Task.is_done handle.promise.may.now.id handle.promise.work.value back.reported.of back.reported.value back.work) (λ given. back ≡ given)) l.yielded l.returned.items;
}
