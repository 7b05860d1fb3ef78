-- One work more is put.
use Rattle.std.proofs.Common.{rules, ◌≡◌, refl, [], ◌∷◌, ◌++◌, sym, ap, ◌∙◌, subst, append_assoc}
use Rattle.std.proofs.lemmas.List.Elements.{All-head, All-rest, All-same}
use Rattle.worker_jobs.specs.declared.workers.Returned.{Returned}
use Rattle.std.specs.Vec.Iter.{into_iter_items}
use Rattle.worker_jobs.specs.GivenBack.{Each, none}
use Rattle.worker_jobs.proofs.EachLemmas.{each_push, each_along, all_taken}
use Rattle.worker_jobs.proofs.workers.tasks_of.Goals as goal

pub loop-back-init : goal.loop-back-init
loop-back-init g c = record {
  left = c.into_iter-back-iterator.ensures.into_iter_gives.0;
  count = search rules;
  room = search rules;
  reported = All-same (λ (back : Returned g.row.W.Denot). back.reported.of ≡ c.args.reported.now.of) _ _ c.into_iter-back-iterator.ensures.into_iter_gives.0 c.requires.reported;
  tasks = subst (Each _ _) (sym c.requires.empty) none;
}

pub agrees-requires : goal.agrees-requires
agrees-requires g c = All-head (λ (back : Returned g.row.W.Denot). back.reported.of ≡ c.args.reported.now.of) _ _ (All-same (λ (back : Returned g.row.W.Denot). back.reported.of ≡ c.args.reported.now.of) _ _ (sym c.in-Some.ensures.steps.0) c.loop-back.invariant.reported)

pub loop-back-preserved : goal.loop-back-preserved
loop-back-preserved g c = record {
  left = append_assoc c.loop-back.yielded (c.in-Some.back ∷ []) (into_iter_items c.next.new.self) ∙ ap (λ rest. c.loop-back.yielded ++ rest) (sym c.in-Some.ensures.steps.0) ∙ c.loop-back.invariant.left;
  count = search rules;
  room = search rules;
  reported = All-rest (λ (back : Returned g.row.W.Denot). back.reported.of ≡ c.args.reported.now.of) _ _ _ c.in-Some.ensures.steps.0 c.loop-back.invariant.reported;
  tasks = subst (Each _ _) (sym c.push_reserved.ensures.items) (each_push _ _ _ _ _ c.loop-back.invariant.tasks (c.agrees.ensures, refl));
}

pub returns : goal.returns
returns g c =
    let all : c.loop-back.yielded ≡ c.args.returned.items = all_taken c.loop-back.yielded (into_iter_items c.loop-back.back-iterator) c.args.returned.items c.loop-back.invariant.left (sym c.loop-back.back-iterator.rest.ok.0 ∙ c.in-None.ensures.steps.0) in each_along _ _ _ _ all c.loop-back.invariant.tasks
