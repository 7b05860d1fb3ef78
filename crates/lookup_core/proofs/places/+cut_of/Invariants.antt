use Rattle.std.proofs.Common.{length}
use Rattle.lookup_core.proofs.places.+cut_of.Given as goal

-- the parent has a label less
abbrev pub decreases-cut_of : goal.decreases-cut_of
decreases-cut_of g l = length l.name.now
