use Rattle.std.proofs.Common.{◌≡◌, ◌-◌, length, drop}
use Rattle.message_counts.specs.Transfers.{owner_end}
use Rattle.message_counts.proofs.transfers.owner_end.Given as goal

-- the owner ends where the rest of its labels does
abbrev pub invariant-loop-len : goal.invariant-loop-len
invariant-loop-len l = owner_end l.at 0 (drop l.at l.octets) ≡ owner_end l.start 0 (drop l.start l.octets)

abbrev pub decreases-loop-len : goal.decreases-loop-len
decreases-loop-len l = length l.octets - l.at
