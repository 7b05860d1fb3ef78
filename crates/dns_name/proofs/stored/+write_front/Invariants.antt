use Rattle.std.proofs.Common.{length}
use Rattle.dns_name.proofs.stored.+write_front.Given as goal

abbrev pub decreases-write_front : goal.decreases-write_front
decreases-write_front l = length l.octets.now
