use Rattle.std.proofs.Common.{◌≡◌, [], ◌++◌, map, flat_map, drop, sym, ap, ◌∙◌}
use Rattle.std.proofs.lemmas.List.{append-nil, drop_all}
use Rattle.zone_change.specs.Change.{as_sent}
use Rattle.zone_change.proofs.UpdateLemmas.{map_sets}
use Rattle.zone_change.proofs.update.put_sets.Goals as goal

pub returns : goal.returns
returns c =
    let f = as_sent c.args.class.0 in
    let left : flat_map (map f) (drop c.loop-set.set-index c.args.sets.now) ≡ [] = ap (flat_map (map f)) (drop_all c.loop-set.set-index c.args.sets.now c.loop-set-test.false) in
    sym (ap (λ rs. c.loop-set.raws.items ++ rs) left ∙ append-nil c.loop-set.raws.items) ∙ c.loop-set.invariant ∙ ap (λ rs. c.args.raws.now.items ++ rs) (map_sets f c.args.sets.now)
