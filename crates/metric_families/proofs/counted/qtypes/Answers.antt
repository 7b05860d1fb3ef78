use Rattle.std.proofs.Common.{codes, rules}
use Rattle.counters.specs.declared.counter.Counter.TheVariants.{Question}
use Rattle.counters.specs.declared.qtype.Qtype.TheVariants.{A}
use Rattle.counters.specs.Counters.{number_of}
use Rattle.counters.specs.Qtypes.{all_qtypes, qtype_word}
use Rattle.metric_families.specs.Samples.{one_label}
use Rattle.metric_families.proofs.EachLemmas.{one_more}
use Rattle.metric_families.proofs.counted.qtypes.Goals as goal

pub loop-qtype-preserved : goal.loop-qtype-preserved
loop-qtype-preserved c =
    one_more (λ qtype. one_label (codes "type") (qtype_word qtype) (number_of (Question qtype) c.args.sum.now.numbers)) c.loop-qtype.family _ _ all_qtypes c.loop-qtype.qtype-index A c.loop-qtype-test.true (search rules) c.loop-qtype.invariant
