-- One work more has come back.
use Rattle.std.proofs.Common.{rules, ◌≡◌, [], ◌∷◌, ◌++◌, sym, ap, ◌∙◌, subst, append_assoc}
use Rattle.std.specs.Vec.Iter.{into_iter_items}
use Rattle.worker_jobs.specs.GivenBack.{Each, none}
use Rattle.worker_jobs.proofs.EachLemmas.{each_push, each_along, all_taken}
use Rattle.worker_jobs.proofs.workers.end_all.Goals as goal

pub loop-one-init : goal.loop-one-init
loop-one-init g c = record { left = c.into_iter-one-iterator.ensures.into_iter_gives.0; count = search rules; room = search rules; ended = subst (Each _ _) (sym c.requires.empty) none }

pub loop-one-preserved : goal.loop-one-preserved
loop-one-preserved g c = record {
  left = append_assoc c.loop-one.yielded (c.in-Some.one ∷ []) (into_iter_items c.next.new.self) ∙ ap (λ rest. c.loop-one.yielded ++ rest) (sym c.in-Some.ensures.steps.0) ∙ c.loop-one.invariant.left;
  count = search rules;
  room = search rules;
  ended = subst (Each _ _) (sym c.push_reserved.ensures.items) (each_push _ _ _ _ _ c.loop-one.invariant.ended c.end.ensures);
}

pub returns-clause-ended : goal.returns-clause-ended
returns-clause-ended g c =
    let all : c.loop-one.yielded ≡ c.args.begun.items = all_taken c.loop-one.yielded (into_iter_items c.loop-one.one-iterator) c.args.begun.items c.loop-one.invariant.left (sym c.loop-one.one-iterator.rest.ok.0 ∙ c.in-None.ensures.steps.0) in each_along _ _ _ _ all c.loop-one.invariant.ended
