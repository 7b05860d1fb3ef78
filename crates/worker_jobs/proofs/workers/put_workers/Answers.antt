-- One pair more is put.
use Rattle.std.proofs.Common.{rules, ap}
use Rattle.worker_jobs.proofs.ListLemmas.{map_more}
use Rattle.worker_jobs.proofs.workers.put_workers.Goals as goal

pub loop-reader-preserved : goal.loop-reader-preserved
loop-reader-preserved g c = record {
  room = search rules;
  pairs = map_more (λ worker. (worker.asked.reader, worker.job)) _ _ _ _ _ c.push_reserved.ensures.items c.loop-reader.invariant.pairs (ap (λ r. (r, c.in-Some.job)) c.new.ensures.reader);
}
