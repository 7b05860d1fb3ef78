use Rattle.std.proofs.Common.{length, ap, arith}
use Rattle.journal.proofs.RequestLemmas.{short_at}
use Rattle.journal.proofs.batch.put_more.Goals as goal

pub put_counted-requires-in-loop-message : goal.put_counted-requires-in-loop-message
put_counted-requires-in-loop-message c =
    let short = short_at c.args.more.now c.loop-message.message-index c.message-item.result c.requires c.loop-message-test.true c.message-item.is in
    omega (arith, short.short, ap length c.deref.ensures.value)
