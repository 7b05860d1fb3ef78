use Rattle.commands.proofs.LinesLemmas.{IsWritten}
use Rattle.commands.proofs.whole.write_whole.Given as goal

abbrev pub invariant-loop : goal.invariant-loop
invariant-loop g l = IsWritten (g.W.Write.contents l.initial.writer) (g.W.Write.contents l.writer) l.octets l.rest
