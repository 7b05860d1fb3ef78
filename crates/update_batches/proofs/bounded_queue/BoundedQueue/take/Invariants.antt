-- So many are taken, in their order, and as much room is left as more are to be.
use Rattle.std.proofs.Common.{◌≡◌, ◌+◌, ◌≤◌, ◌++◌, take, vec_len, vec_capacity}
use Rattle.update_batches.specs.BoundedQueue.{items_of, without_first}
use Rattle.update_batches.proofs.bounded_queue.BoundedQueue.take.Given as goal

abbrev pub invariant-loop-taken : goal.invariant-loop-taken
invariant-loop-taken g l =
    (l.taken.items ≡ l.initial.taken.items ++ take l._taken (items_of l.initial.self))
    × (l.self ≡ without_first l._taken l.initial.self)
    × (vec_capacity l.taken ≡ vec_capacity l.initial.taken)
    × (vec_len l.taken + l.room ≤ vec_capacity l.taken + l._taken)
