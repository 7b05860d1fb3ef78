use Rattle.std.proofs.Common.{codes, rules}
use Rattle.counters.specs.declared.counter.Counter.TheVariants.{ConnectionEnded}
use Rattle.counters.specs.declared.connection_end.ConnectionEnd.TheVariants.{Done}
use Rattle.counters.specs.Counters.{number_of}
use Rattle.counters.specs.ConnectionEnds.{all_connection_ends, connection_end_word}
use Rattle.metric_families.specs.Samples.{one_label}
use Rattle.metric_families.proofs.EachLemmas.{one_more}
use Rattle.metric_families.proofs.counted.connection_ends.Goals as goal

pub loop-reason-preserved : goal.loop-reason-preserved
loop-reason-preserved c =
    one_more (λ reason. one_label (codes "reason") (connection_end_word reason) (number_of (ConnectionEnded reason) c.args.sum.now.numbers)) c.loop-reason.family _ _ all_connection_ends c.loop-reason.reason-index Done c.loop-reason-test.true (search rules) c.loop-reason.invariant
