use Rattle.std.proofs.Common.{length}
use Rattle.transfer_core.proofs.SoaLemmas.{IsLoading}
use Rattle.transfer_in.proofs.reading.beside_soa.Given as goal

abbrev pub invariant-loop-lent : goal.invariant-loop-lent
invariant-loop-lent l = IsLoading l.zone l.records l.list

abbrev pub decreases-loop-lent : goal.decreases-loop-lent
decreases-loop-lent l = length l.list
