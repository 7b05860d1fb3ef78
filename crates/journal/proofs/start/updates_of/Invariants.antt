use Rattle.std.proofs.Common.{map}
use Rattle.journal.proofs.StartLemmas.{TakenSoFar}
use Rattle.journal.proofs.start.updates_of.Given as goal

abbrev pub invariant-loop-number : goal.invariant-loop-number
invariant-loop-number l = TakenSoFar (map (λ body. body.now) l.bodies) l.number (map (λ request. map (λ message. message.now) request.items) l.updates.items)
