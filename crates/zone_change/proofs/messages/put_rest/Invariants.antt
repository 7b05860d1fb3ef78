use Rattle.std.proofs.Common.{length, map}
use Rattle.zone_change.proofs.MessagesLemmas.{PutSoFar}
use Rattle.zone_change.proofs.messages.put_rest.Given as goal

abbrev pub invariant-loop-rest : goal.invariant-loop-rest
invariant-loop-rest l = PutSoFar l.zone l.records l.rest (map (λ message. message.items) l.initial.messages.items) (map (λ message. message.items) l.messages.items)

abbrev pub decreases-loop-rest : goal.decreases-loop-rest
decreases-loop-rest l = length l.rest
