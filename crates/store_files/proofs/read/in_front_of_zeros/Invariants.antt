use Rattle.std.proofs.Common.{length}
use Rattle.store_files.specs.Still.{AreZerosBehind}
use Rattle.store_files.proofs.read.in_front_of_zeros.Given as goal

abbrev pub invariant-loop-last : goal.invariant-loop-last
invariant-loop-last l = AreZerosBehind l.octets l.front

abbrev pub decreases-loop-last : goal.decreases-loop-last
decreases-loop-last l = length l.front
