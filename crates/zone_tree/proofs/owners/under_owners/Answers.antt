use Rattle.std.proofs.Common.{sym, ◌∙◌}
use Rattle.std.proofs.lemmas.Iterator.Adapters.{YieldsList-from_vec}
use Rattle.std.proofs.lemmas.Iterator.Consumers.{YieldsList-turn, YieldsList-so_far}
use Rattle.zone_tree.proofs.OwnerLemmas.{next_behind, map_same}
use Rattle.zone_tree.proofs.owners.under_owners.Goals as goal

-- each set comes behind those before it
pub loop-set-preserved : goal.loop-set-preserved
loop-set-preserved c =
    let all = c.args.sets.items in
    let from = c.into_iter-set-iterator.ensures.into_iter_gives in
    let road = YieldsList-from_vec {s = c.into_iter-set-iterator.result} all from.0 (from.1 ∙ c.args.sets.ok.0) in
    let t = YieldsList-turn road c.loop-set.yielded _ c.loop-set.yielded_by c.next.result c.next.new.self c.in-Some.set c.in-Some.is c.next.ensures.steps in
    let front = YieldsList-so_far road c.loop-set.yielded _ c.loop-set.yielded_by in
    c.in_ok-put_behind.ensures c.loop-set.yielded c.loop-set.invariant (next_behind all c.loop-set.yielded c.in-Some.set c.requires (sym (map_same c.loop-set.yielded) ∙ front) t.0 t.1)
