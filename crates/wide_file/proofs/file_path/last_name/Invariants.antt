use Rattle.std.proofs.Common.{◌≡◌, length}
use Rattle.wide_file.specs.Paths.{last_name}
use Rattle.wide_file.proofs.file_path.last_name.Given as goal

abbrev pub invariant-loop-left : goal.invariant-loop-left
invariant-loop-left l = last_name l.name l.left ≡ last_name l.path l.path

abbrev pub decreases-loop-left : goal.decreases-loop-left
decreases-loop-left l = length l.left
