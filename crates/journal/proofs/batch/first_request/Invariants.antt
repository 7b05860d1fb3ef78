use Rattle.std.proofs.Common.{length, map}
use Rattle.journal.proofs.BatchLemmas.{RequestSoFar}
use Rattle.journal.proofs.batch.first_request.Given as goal

abbrev pub invariant-loop-after : goal.invariant-loop-after
invariant-loop-after l = RequestSoFar l.octets (map (λ message. message.now) l.messages.items) l.rest

abbrev pub decreases-loop-after : goal.decreases-loop-after
decreases-loop-after l = length l.rest
