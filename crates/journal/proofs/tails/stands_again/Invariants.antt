use Rattle.std.specs.Int.{w64, to_be_bytes}
use Rattle.journal.proofs.TailLemmas.{NoMarkBefore}
use Rattle.journal.proofs.tails.stands_again.Given as goal

abbrev pub invariant-loop-place : goal.invariant-loop-place
invariant-loop-place l = NoMarkBefore (to_be_bytes w64 l.mark) l.octets l.place
