use Rattle.std.proofs.Common.{length}
use Rattle.dns_name.proofs.front.+front_beside.Given as goal

abbrev pub decreases-front_beside : goal.decreases-front_beside
decreases-front_beside l = length l.base.now
