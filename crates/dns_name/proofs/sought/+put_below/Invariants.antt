use Rattle.std.proofs.Common.{length}
use Rattle.dns_name.proofs.sought.+put_below.Given as goal

abbrev pub decreases-put_below : goal.decreases-put_below
decreases-put_below l = length l.octets.now
