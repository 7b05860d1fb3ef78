use Rattle.std.proofs.Common.{◌++◌, ◌∷◌, [], List, append_assoc, sym, ap, ◌∙◌}
use Rattle.std.specs.Vec.Iter.{into_iter_items}
use Rattle.update_batches.specs.declared.version_update.VersionUpdate.{VersionUpdate}
use Rattle.store_compaction.specs.RecentUpdates.{RecentState, pushed}
use Rattle.store_compaction.proofs.RecentLemmas.{followed_push}
use Rattle.store_compaction.proofs.recent_updates.RecentUpdates.follow.Goals as goal

pub loop-step-preserved : goal.loop-step-preserved
loop-step-preserved c =
    let yielded = c.loop-step.yielded in
    record {
      left = append_assoc yielded (c.in-Some.step ∷ []) (into_iter_items c.next.new.self) ∙ ap (λ (l : List VersionUpdate). yielded ++ l) (sym c.in-Some.ensures.steps.0) ∙ c.loop-step.invariant.left;
      recent = c.push.ensures ∙ (ap (λ (t : RecentState). pushed t c.in-Some.step) c.loop-step.invariant.recent ∙ sym (followed_push c.args.self.now yielded c.in-Some.step));
    }
