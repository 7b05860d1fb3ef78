use Rattle.std.proofs.Common.{arith}
use Rattle.world_run.proofs.PlayLemmas.{line_played, all_played, limit_passed}
use Rattle.world_run.proofs.world.play_lines.Goals as goal

pub loop-line-preserved : goal.loop-line-preserved
loop-line-preserved c =
    line_played c.args.lines.now c.loop-line.line-index c.line-item.result c.loop-line.replies.items _ _ c.loop-line.play _ (omega arith) c.line-item.is c.in-Ok.ensures.ok c.loop-line.invariant

pub returns-in-Err-clause-limit : goal.returns-in-Err-clause-limit
returns-in-Err-clause-limit c =
    λ passed. limit_passed c.args.lines.now c.loop-line.line-index c.line-item.result c.loop-line.replies.items c.args.play.now c.loop-line.play (omega arith) c.line-item.is (c.in-Err.ensures.limit passed) c.loop-line.invariant

pub returns-clause-reported : goal.returns-clause-reported
returns-clause-reported c = all_played c.args.play.now c.args.lines.now c.loop-line.line-index c.loop-line.replies.items c.loop-line.play (omega arith) c.loop-line.invariant
