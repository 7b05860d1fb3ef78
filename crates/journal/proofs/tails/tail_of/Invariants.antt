use Rattle.journal.proofs.TailLemmas.{Searched}
use Rattle.journal.proofs.tails.tail_of.Given as goal

abbrev pub invariant-loop-at : goal.invariant-loop-at
invariant-loop-at l = Searched l.salt l.next l.rest l.initial.digested l.digested l.at
