use Rattle.std.proofs.Common.{◌≡◌, ◌++◌, map, flat_map, drop}
use Rattle.zone_change.specs.Change.{as_sent}
use Rattle.zone_change.proofs.update.put_sets.Given as goal

-- what was put, with what is left, is all
abbrev pub invariant-loop-set : goal.invariant-loop-set
invariant-loop-set l = l.raws.items ++ flat_map (map (as_sent l.class.0)) (drop l.set-index l.sets) ≡ l.initial.raws.items ++ flat_map (map (as_sent l.class.0)) l.sets
