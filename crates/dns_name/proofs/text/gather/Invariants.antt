use Rattle.std.proofs.Common.{length}
use Rattle.dns_name.proofs.TextLemmas.{IsOnTheWay}
use Rattle.dns_name.proofs.text.gather.Given as goal

abbrev pub invariant-loop-rest : goal.invariant-loop-rest
invariant-loop-rest l = IsOnTheWay l.text l.rest l.gathered

abbrev pub decreases-loop-rest : goal.decreases-loop-rest
decreases-loop-rest l = length l.rest
