use Rattle.std.proofs.Common.{codes, rules}
use Rattle.counters.specs.declared.counter.Counter.TheVariants.{UpdateRefused}
use Rattle.counters.specs.declared.refusal.Refusal.TheVariants.{Permission}
use Rattle.counters.specs.Counters.{number_of}
use Rattle.counters.specs.Refusals.{all_refusals, refusal_word}
use Rattle.metric_families.specs.Samples.{one_label}
use Rattle.metric_families.proofs.EachLemmas.{one_more}
use Rattle.metric_families.proofs.counted.refusals.Goals as goal

pub loop-reason-preserved : goal.loop-reason-preserved
loop-reason-preserved c =
    one_more (λ reason. one_label (codes "reason") (refusal_word reason) (number_of (UpdateRefused reason) c.args.sum.now.numbers)) c.loop-reason.family _ _ all_refusals c.loop-reason.reason-index Permission c.loop-reason-test.true (search rules) c.loop-reason.invariant
