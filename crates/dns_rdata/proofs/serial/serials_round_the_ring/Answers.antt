use Rattle.dns_rdata.proofs.SerialLemmas.{less-next, less-sum, less-ahead, less-behind, sum-distance, less-half, less-same, less-other}
use Rattle.dns_rdata.proofs.serial.serials_round_the_ring.Goals as goal

pub returns-clause-next : goal.returns-clause-next
returns-clause-next c = less-next

pub returns-clause-sum : goal.returns-clause-sum
returns-clause-sum c = less-sum

pub returns-clause-ahead : goal.returns-clause-ahead
returns-clause-ahead c = λ a b h k. (less-ahead a b h k, λ p. less-behind a b h k p.0 p.1)

pub returns-clause-distance : goal.returns-clause-distance
returns-clause-distance c = sum-distance

pub returns-clause-half : goal.returns-clause-half
returns-clause-half c = less-half

pub returns-clause-itself : goal.returns-clause-itself
returns-clause-itself c = less-same

pub returns-clause-other : goal.returns-clause-other
returns-clause-other c = less-other
