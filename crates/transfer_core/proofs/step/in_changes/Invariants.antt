use Rattle.std.proofs.Common.{◌≡◌, ◌++◌, drop}
use Rattle.zone_tree.specs.Zone.{soa_of}
use Rattle.transfer_core.specs.Places.{steps_from}
use Rattle.transfer_core.proofs.step.in_changes.Given as goal

-- what is left from the version that is reached is what is left
abbrev pub invariant-loop-at : goal.invariant-loop-at
invariant-loop-at g l =
    drop l.left (steps_from l.begun l.from (drop l.at (g.C.VersionList.versions l.fn.chain)) ++ soa_of l.fn.zone)
    ≡ drop l.fn.sent (steps_from l.fn.part l.fn.set (drop l.fn.version (g.C.VersionList.versions l.fn.chain)) ++ soa_of l.fn.zone)
