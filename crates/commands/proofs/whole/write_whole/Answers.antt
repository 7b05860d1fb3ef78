use Rattle.std.proofs.lemmas.List.{take_rest}
use Rattle.commands.proofs.LinesLemmas.{IsWritten-more, IsWritten-kept}
use Rattle.commands.proofs.whole.write_whole.Goals as goal
use Rattle.commands.proofs.whole.write_whole.Goals.{in-Ok, in-Err}

pub loop-preserved : goal.loop-preserved
loop-preserved g c =
    elim c.match-write.branch [
      | in-Ok w ↦ rw (w.rest-is, take_rest) (IsWritten-more _ (g.W.Write.contents c.loop.writer) _ _ c.loop.rest.now w.in-Ok.len c.loop.invariant w.in-Ok.ensures.bytes)
      | in-Err w ↦ rw w.rest-is (IsWritten-kept _ (g.W.Write.contents c.loop.writer) _ _ c.loop.rest.now c.loop.invariant w.in-Err.ensures.bytes)
    ]
