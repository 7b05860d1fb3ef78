use Rattle.dns_name.proofs.LastLemmas.{IsBehind}
use Rattle.dns_name.proofs.stored.last_piece.Given as goal

abbrev pub invariant-loop-start : goal.invariant-loop-start
invariant-loop-start l = IsBehind l.octets l.labels l.start

abbrev pub decreases-loop-start : goal.decreases-loop-start
decreases-loop-start l = l.start
