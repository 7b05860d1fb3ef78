-- One job more is that of its spec.
use Rattle.std.proofs.Common.{rules, ◌≡◌, [], ◌∷◌, ◌++◌, All, sym, ap, ◌∙◌, subst, append_assoc}
use Rattle.std.proofs.lemmas.List.{map_push}
use Rattle.std.proofs.lemmas.List.Elements.{All-push}
use Rattle.std.specs.Vec.Iter.{into_iter_items}
use Rattle.serve_workers.specs.Numbers.{number_of, takes_datagrams, are_datagrams, HasRights}
use Rattle.worker_jobs.proofs.ListLemmas.{map_more}
use Rattle.serve_workers.proofs.jobs.jobs_of.Goals as goal

pub loop-spec-preserved : goal.loop-spec-preserved
loop-spec-preserved g c =
    let pushed : c.push_reserved.new.self.items ≡ c.loop-spec.jobs.items ++ c.in-Ok-into_job.job ∷ [] = c.push_reserved.ensures.items in record {
      left = append_assoc c.loop-spec.yielded (c.in-Some.spec ∷ []) (into_iter_items c.next.new.self) ∙ ap (λ rest. c.loop-spec.yielded ++ rest) (sym c.in-Some.ensures.steps.0) ∙ c.loop-spec.invariant.left;
      count = search rules;
      room = search rules;
      numbers =
          map_more (λ job. number_of job) _ _ _ _ _ pushed c.loop-spec.invariant.numbers c.in-Ok-into_job.ensures.number ∙ sym (map_push (λ spec. spec.worker) c.loop-spec.yielded c.in-Some.spec);
      kinds =
          map_more (λ job. takes_datagrams job) _ _ _ _ _ pushed c.loop-spec.invariant.kinds c.in-Ok-into_job.ensures.kind ∙ sym (map_push (λ spec. are_datagrams spec.sockets) c.loop-spec.yielded c.in-Some.spec);
      rights =
          subst (λ jobs. All (λ job. HasRights c.args.plan.connections.allowed.rules.now job) jobs) (sym pushed)
          (All-push (λ job. HasRights c.args.plan.connections.allowed.rules.now job) c.loop-spec.jobs.items c.in-Ok-into_job.job c.loop-spec.invariant.rights c.in-Ok-into_job.ensures.rights);
    }
