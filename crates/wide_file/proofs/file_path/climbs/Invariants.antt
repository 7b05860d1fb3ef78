use Rattle.std.proofs.Common.{◌≡◌, length, true}
use Rattle.wide_file.specs.Paths.{climbs}
use Rattle.wide_file.proofs.file_path.climbs.Given as goal

abbrev pub invariant-loop-left : goal.invariant-loop-left
invariant-loop-left l = climbs l.begins l.left ≡ climbs true l.path

abbrev pub decreases-loop-left : goal.decreases-loop-left
decreases-loop-left l = length l.left
