use Rattle.std.proofs.Common.{◌≡◌, codes, drop}
use Rattle.counters.specs.declared.counter.Counter.TheVariants.{Update}
use Rattle.counters.specs.Counters.{number_of}
use Rattle.counters.specs.Rcodes.{rcode_word}
use Rattle.metrics_text.specs.Families.{with_samples}
use Rattle.metric_families.specs.Families.{each_labelled}
use Rattle.metric_families.specs.Counted.{update_rcodes}
use Rattle.metric_families.proofs.counted.update_rcodes.Given as goal

-- what is there, with what is left, is all
abbrev pub invariant-loop-rcode : goal.invariant-loop-rcode
invariant-loop-rcode l = with_samples l.family (each_labelled (codes "rcode") rcode_word (λ rcode. number_of (Update rcode) l.sum.numbers) (drop l.rcode-index l.rcode-items)) ≡ update_rcodes l.sum.numbers
