use Rattle.std.proofs.Common.{◌≡◌, drop}
use Rattle.update_core.specs.Verdict.{first_code, prerequisite}
use Rattle.update_core.proofs.prerequisites.check_each.Given as goal

-- the first code is one of those that are left
abbrev pub invariant-loop-raw : goal.invariant-loop-raw
invariant-loop-raw g l = first_code (prerequisite (g.Z.ZoneRead.records l.zone)) l.raws ≡ first_code (prerequisite (g.Z.ZoneRead.records l.zone)) (drop l.raw-index l.raws)
