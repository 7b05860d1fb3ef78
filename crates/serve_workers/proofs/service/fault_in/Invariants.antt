-- No job so far has failed.
use Rattle.std.proofs.Common.{◌≡◌, take, All, None}
use Rattle.serve_workers.specs.Numbers.{end_of, fault_by}
use Rattle.serve_workers.proofs.service.fault_in.Given as goal

abbrev pub invariant-loop-thread : goal.invariant-loop-thread
invariant-loop-thread g l = All (λ thread. fault_by (end_of thread.job) ≡ None) (take l.thread-index l.threads)
