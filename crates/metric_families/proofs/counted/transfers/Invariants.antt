use Rattle.std.proofs.Common.{◌≡◌, codes, drop, map}
use Rattle.counters.specs.declared.counter.Counter.TheVariants.{Transfer}
use Rattle.counters.specs.Counters.{number_of}
use Rattle.counters.specs.Transfers.{transfer_word, sent_word}
use Rattle.metrics_text.specs.Families.{with_samples}
use Rattle.metric_families.specs.Samples.{two_labels}
use Rattle.metric_families.specs.Counted.{transfers}
use Rattle.metric_families.proofs.counted.transfers.Given as goal

-- what is there, with what is left, is all
abbrev pub invariant-loop-transfer : goal.invariant-loop-transfer
invariant-loop-transfer l = with_samples l.family (map (λ a. two_labels (codes "type") (transfer_word a) (codes "result") (sent_word a) (number_of (Transfer a) l.sum.numbers)) (drop l.transfer-index l.transfer-items)) ≡ transfers l.sum.numbers
