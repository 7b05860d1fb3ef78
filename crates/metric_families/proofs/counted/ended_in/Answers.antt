use Rattle.std.proofs.Common.{rules}
use Rattle.metric_families.proofs.EndedLemmas.{ended_more}
use Rattle.metric_families.proofs.counted.ended_in.Goals as goal

pub loop-reason-preserved : goal.loop-reason-preserved
loop-reason-preserved c = ended_more c.args.sum.now.numbers c.loop-reason.ended _ _ c.loop-reason.reason-index c.loop-reason-test.true (search rules) c.loop-reason.invariant
