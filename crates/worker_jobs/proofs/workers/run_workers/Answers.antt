-- A worker may be sent to its thread, and the jobs come back with their numbers, done, and with their readers.
use denote.Exit.{no}
use denote.Param.{param}
use denote.Param.Send.{param_send, arg_send, sendable}
use Rattle.worker_jobs.proofs.SendLemmas.{worker_send}
use Rattle.worker_jobs.proofs.EachLemmas.{numbers_along, each_put, all_put}
use Rattle.worker_jobs.proofs.workers.run_workers.Goals as goal

pub run_tasks-started-requires-send-W : goal.run_tasks-started-requires-send-W
run_tasks-started-requires-send-W g c κs within =
    param_send _ _
    (arg_send _ no _
    (worker_send _ _ (param 1 g.row.Z) (param 2 g.row.N) (param 3 g.row.J) (param 4 g.row.L) g.Z.FirstZone g.N.Naming g.N.ServerName
    (search (c.type_bounds.send-J, sendable)) (search (c.type_bounds.sync-L, sendable))))

pub returns-then-started-clause-numbers : goal.returns-then-started-clause-numbers
returns-then-started-clause-numbers g c = numbers_along _ _ _ _ _ _ c.put_pairs.ensures.pairs c.run_tasks-started.ensures.numbers c.put_workers.ensures.pairs

pub returns-then-started-clause-seen : goal.returns-then-started-clause-seen
returns-then-started-clause-seen g c = each_put _ _ _ _ _ _ c.put_pairs.ensures.pairs c.run_tasks-started.ensures.seen c.put_workers.ensures.pairs

pub returns-then-started-clause-done : goal.returns-then-started-clause-done
returns-then-started-clause-done g c = all_put (λ pair. g.J.Job.is_done pair.1) (λ worker. (worker.asked.reader, worker.job)) _ _ c.put_pairs.ensures.pairs (c.run_tasks-started.ensures.done c.if-started.true)
