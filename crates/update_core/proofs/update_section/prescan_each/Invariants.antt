use Rattle.std.proofs.Common.{◌≡◌, drop}
use Rattle.update_core.specs.Verdict.{first_code, prescan_of}
use Rattle.update_core.proofs.update_section.prescan_each.Given as goal

-- the first code is one of those that are left
abbrev pub invariant-loop-raw : goal.invariant-loop-raw
invariant-loop-raw g l = first_code (prescan_of (g.Z.ZoneRead.records l.zone)) l.raws ≡ first_code (prescan_of (g.Z.ZoneRead.records l.zone)) (drop l.raw-index l.raws)
