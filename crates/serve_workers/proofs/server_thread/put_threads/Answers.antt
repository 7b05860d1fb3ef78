-- One reader more has its job.
use Rattle.std.proofs.Common.{rules, ◌≡◌, ◌++◌, append-nil, length, Some, map, sym, ap, ◌∙◌}
use Rattle.std.proofs.lemmas.List.{take_all}
use Rattle.std.specs.Vec.Iter.{into_iter_items, drain_items}
use Rattle.worker_jobs.proofs.EachLemmas.{all_taken}
use Rattle.worker_jobs.proofs.ListLemmas.{map_taken}
use Rattle.serve_workers.proofs.server_thread.put_threads.Goals as goal

pub loop-reader-init : goal.loop-reader-init
loop-reader-init g c =
    let given : drain_items c.into_iter-reader-iterator.result ≡ c.args.readers.now.items =
    ap (λ it. drain_items it) c.into_iter-reader-iterator.ensures.into_iter_gives ∙ c.drain-reader-items.ensures.rest ∙ take_all _ _ (search rules) in record {
      jobs = ap (λ l. map (λ thread. thread.job) l ++ into_iter_items c.into_iter-jobs.result) c.requires.empty ∙ c.into_iter-jobs.ensures.rest;
      readers =
          ap (λ l. map (λ thread. thread.reader) l ++ map (λ reader. Some reader) (drain_items c.into_iter-reader-iterator.result)) c.requires.empty ∙ ap (map (λ reader. Some reader)) given;
      same = search rules;
      room = search rules;
    }

pub loop-reader-preserved : goal.loop-reader-preserved
loop-reader-preserved g c = record {
  jobs = map_taken (λ thread. thread.job) _ _ _ _ _ _ c.push_reserved.ensures.items c.loop-reader.invariant.jobs c.in-Some-next.ensures.items;
  readers = map_taken (λ thread. thread.reader) _ _ _ _ _ _ c.push_reserved.ensures.items c.loop-reader.invariant.readers (ap (map (λ reader. Some reader)) c.in-Some.ensures.steps.0);
  same = search rules;
  room = search rules;
}

pub returns-clause-readers : goal.returns-clause-readers
returns-clause-readers g c =
    sym (append-nil (map (λ thread. thread.reader) c.loop-reader.threads.items))
    ∙ ap (λ l. map (λ thread. thread.reader) c.loop-reader.threads.items ++ map (λ reader. Some reader) l) (sym c.in-None.ensures.steps.0)
    ∙ c.loop-reader.invariant.readers

pub returns-clause-jobs : goal.returns-clause-jobs
returns-clause-jobs g c =
    all_taken _ (into_iter_items c.loop-reader.jobs) c.args.jobs.items c.loop-reader.invariant.jobs
    (sym c.loop-reader.jobs.rest.ok.0 ∙ c.loop-reader.invariant.same ∙ ap length c.in-None.ensures.steps.0)
