use Rattle.std.proofs.Common.{length}
use Rattle.wire_names.proofs.FrontLemmas.{IsSame}
use Rattle.wire_names.proofs.table.behind_same.Given as goal

-- the first labels stand there, up to the rest
abbrev pub invariant-loop-label : goal.invariant-loop-label
invariant-loop-label l = record { same : IsSame l.msg l.octets l.rest l.there l.at }

abbrev pub decreases-loop-label : goal.decreases-loop-label
decreases-loop-label l = length l.rest
