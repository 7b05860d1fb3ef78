-- One turn more has been taken.
use Rattle.std.proofs.Common.{rules}
use Rattle.requests.proofs.TurnLemmas.{grows_more}
use Rattle.worker_jobs.proofs.notify_job.NotifyJob.do_due.Goals as goal
use Rattle.worker_jobs.proofs.notify_job.NotifyJob.do_due.Goals.{in-Due-Silent, in-Due-Send}

pub returns-in_default-clause-grows : goal.returns-in_default-clause-grows
returns-in_default-clause-grows g c = grows_more _ _ _ c.loop.invariant.grows c.in_default.ensures.grows

pub returns-in-Look-clause-grows : goal.returns-in-Look-clause-grows
returns-in-Look-clause-grows g c = grows_more _ _ _ c.loop.invariant.grows c.in-Ok.ensures.grows

pub loop-preserved : goal.loop-preserved
loop-preserved g c = record {
  grows = grows_more _ _ _ c.loop.invariant.grows c.in-Ok.ensures.grows;
  number = elim c.match-next-2.branch [ in-Due-Silent w ↦ search rules | in-Due-Send w ↦ search rules ];
}
