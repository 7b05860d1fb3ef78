use Rattle.std.proofs.Common.{◌≡◌, ◌++◌, length}
use Rattle.wide_file.specs.IncludedPaths.{paths_in}
use Rattle.zone_lexing.specs.Entries.{entries_of}
use Rattle.wide_file.proofs.included.included_paths.Given as goal

abbrev pub invariant-loop-paths : goal.invariant-loop-paths
invariant-loop-paths l = l.paths.items ++ paths_in l.file l.entries ≡ paths_in l.file (entries_of l.text)

abbrev pub decreases-loop-paths : goal.decreases-loop-paths
decreases-loop-paths l = length l.entries
