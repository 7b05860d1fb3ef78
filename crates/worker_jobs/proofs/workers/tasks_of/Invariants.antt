-- The tasks so far are put.
use Rattle.std.proofs.Common.{◌≡◌, ◌+◌, ◌++◌, ◌≤◌, All, vec_len, vec_capacity}
use Rattle.std.specs.Vec.Iter.{into_iter_len, into_iter_items}
use Rattle.worker_jobs.specs.GivenBack.{Each}
use Rattle.worker_jobs.proofs.workers.tasks_of.Given as goal

abbrev pub invariant-loop-back : goal.invariant-loop-back
invariant-loop-back g l = record {
  left : l.yielded ++ into_iter_items l.back-iterator ≡ l.fn.returned.items;
  count : vec_len l.done + into_iter_len l.back-iterator ≡ vec_len l.fn.returned;
  room : vec_len l.fn.returned ≤ vec_capacity l.done;
  reported : All (λ back. back.reported.of ≡ l.reported.of) (into_iter_items l.back-iterator);
  tasks : Each (λ back work. (back.reported.value ≡ l.reported.value) × (work ≡ back.work)) l.yielded l.done.items;
}
