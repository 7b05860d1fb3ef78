use Rattle.std.proofs.Common.{map, take}
use Rattle.update_messages.proofs.JoinedLemmas.{PartsSoFar}
use Rattle.update_messages.proofs.read.read_more.Given as goal

abbrev pub invariant-loop-message : goal.invariant-loop-message
invariant-loop-message l = PartsSoFar (map (λ message. message.now) (take l.message-index l.more)) l.initial.records.items l.records.items
