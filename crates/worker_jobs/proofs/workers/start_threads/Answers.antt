-- One work more is begun.
use Rattle.std.proofs.Common.{rules, ◌≡◌, [], ◌∷◌, ◌++◌, sym, ap, ◌∙◌, subst, append_assoc}
use Rattle.std.specs.Vec.Iter.{into_iter_items}
use Rattle.worker_jobs.specs.GivenBack.{Each, none}
use Rattle.worker_jobs.proofs.EachLemmas.{each_push, each_along, all_taken}
use Rattle.worker_jobs.proofs.workers.start_threads.Goals as goal

pub loop-work-init : goal.loop-work-init
loop-work-init g c = record { left = c.into_iter-work-iterator.ensures.into_iter_gives.0; count = search rules; room = search rules; begun = subst (Each _ _) (sym c.requires.empty) none }

pub loop-work-preserved : goal.loop-work-preserved
loop-work-preserved g c = record {
  left = append_assoc c.loop-work.yielded (c.in-Some.work ∷ []) (into_iter_items c.next.new.self) ∙ ap (λ rest. c.loop-work.yielded ++ rest) (sym c.in-Some.ensures.steps.0) ∙ c.loop-work.invariant.left;
  count = search rules;
  room = search rules;
  begun = subst (Each _ _) (sym c.push_reserved.ensures.items) (each_push _ _ _ _ _ c.loop-work.invariant.begun c.start_thread.ensures);
}

pub returns-clause-begun : goal.returns-clause-begun
returns-clause-begun g c =
    let all : c.loop-work.yielded ≡ c.args.tasks.items = all_taken c.loop-work.yielded (into_iter_items c.loop-work.work-iterator) c.args.tasks.items c.loop-work.invariant.left (sym c.loop-work.work-iterator.rest.ok.0 ∙ c.in-None.ensures.steps.0) in each_along _ _ _ _ all c.loop-work.invariant.begun
