use Rattle.std.proofs.Common.{◌≡◌, ◌+◌, ◌-◌, ◌^◌, length, map, min, take}
use Rattle.journal.specs.Batch.{octets_in}
use Rattle.journal.proofs.request.RequestMessages.octet_count.Given as goal

-- the octets so far, of which the first message's are counted first
abbrev pub invariant-loop-message : goal.invariant-loop-message
invariant-loop-message l = l.count ≡ min (l.initial.count + octets_in (map (λ message. message.items) (take l.message-index l.message-items))) (2 ^ 64 - 1)
