use Rattle.std.proofs.Common.{◌≡◌, ◌+◌, ◌<◌, ◌^◌, length, drop}
use Rattle.transfer_core.specs.Chain.{zones_of}
use Rattle.transfer_core.specs.Window.{span, serials_of}
use Rattle.transfer_core.proofs.kept.spans_less_than_half.Given as goal

-- what was summed up, and what is left, are the span
abbrev pub invariant-loop-version : goal.invariant-loop-version
invariant-loop-version g l =
    (l.sum < 2 ^ 31)
    × (l.sum + span l.last.0 (serials_of (zones_of l.left)) ≡ span l.fn.before.0 (serials_of (zones_of (drop l.fn.at (g.K.VersionList.versions l.kept)))))

abbrev pub decreases-loop-version : goal.decreases-loop-version
decreases-loop-version g l = length l.left
