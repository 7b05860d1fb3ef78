use Rattle.std.proofs.Common.{◌≢◌, ◌<◌, ◌≤◌, ◌-◌, ℕ, length, get_or}
use Rattle.dns_name.proofs.stored.first_closing.Given as goal

abbrev pub invariant-loop-octet : goal.invariant-loop-octet
invariant-loop-octet l = record {
  within : l.at ≤ length l.octets;
  none : (k : ℕ) → k < l.at → get_or l.octets k 0 ≢ 0;
}

abbrev pub decreases-loop-octet : goal.decreases-loop-octet
decreases-loop-octet l = length l.octets - l.at
