use Rattle.std.proofs.Common.{◌≡◌, true, take}
use Rattle.std.specs.List.{list_all}
use Rattle.update_core.proofs.VerdictLemmas.{compared}
use Rattle.update_core.proofs.prerequisites.check_one_by_one.Given as goal

-- each set that was gathered so far is the zone's
abbrev pub invariant-loop-at : goal.invariant-loop-at
invariant-loop-at g l = list_all (compared (g.Z.ZoneRead.records l.zone) l.raws) (take l.at l.raws) ≡ true
