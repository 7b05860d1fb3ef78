use Rattle.std.proofs.Common.{◌-◌, ◌+◌, ◌≡◌, option_map, drop}
use Rattle.dns_name.proofs.ReadLemmas.{len_read}
use Rattle.dns_name.proofs.octets.name_len.Given as goal

-- the octets that the rest takes complete those of the whole
abbrev pub invariant-loop-at : goal.invariant-loop-at
invariant-loop-at l = len_read l.octets ≡ option_map (λ n. l.at + n) (len_read (drop l.at l.octets))

abbrev pub decreases-loop-at : goal.decreases-loop-at
decreases-loop-at l = 255 - l.at
