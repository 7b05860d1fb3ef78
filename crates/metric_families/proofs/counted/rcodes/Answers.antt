use Rattle.std.proofs.Common.{codes, rules}
use Rattle.counters.specs.declared.counter.Counter.TheVariants.{Reply}
use Rattle.counters.specs.declared.rcode.Rcode.TheVariants.{NoError}
use Rattle.counters.specs.Counters.{number_of}
use Rattle.counters.specs.Rcodes.{all_rcodes, rcode_word}
use Rattle.metric_families.specs.Samples.{one_label}
use Rattle.metric_families.proofs.EachLemmas.{one_more}
use Rattle.metric_families.proofs.counted.rcodes.Goals as goal

pub loop-rcode-preserved : goal.loop-rcode-preserved
loop-rcode-preserved c =
    one_more (λ rcode. one_label (codes "rcode") (rcode_word rcode) (number_of (Reply rcode) c.args.sum.now.numbers)) c.loop-rcode.family _ _ all_rcodes c.loop-rcode.rcode-index NoError c.loop-rcode-test.true (search rules) c.loop-rcode.invariant
