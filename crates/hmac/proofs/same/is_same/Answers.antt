use Rattle.std.proofs.Common.{arith}
use Rattle.hmac.proofs.BitLemmas.{next_same}
use Rattle.hmac.proofs.same.is_same.Goals as goal

pub loop-i-preserved : goal.loop-i-preserved
loop-i-preserved c = (c.loop-i.invariant.0, next_same c.args.a.now c.args.b.now c.loop-i.i c.loop-i.differ (omega arith) (omega arith) c.loop-i.invariant.1)
