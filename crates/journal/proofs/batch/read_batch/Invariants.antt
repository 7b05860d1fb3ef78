use Rattle.std.proofs.Common.{length, map}
use Rattle.journal.proofs.BatchLemmas.{ReadSoFar}
use Rattle.journal.proofs.batch.read_batch.Given as goal

abbrev pub invariant-loop-rest : goal.invariant-loop-rest
invariant-loop-rest l = ReadSoFar l.octets (map (λ request. map (λ message. message.now) request.items) l.requests.items) l.rest

abbrev pub decreases-loop-rest : goal.decreases-loop-rest
decreases-loop-rest l = length l.rest
