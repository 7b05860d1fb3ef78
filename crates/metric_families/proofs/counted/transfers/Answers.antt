use Rattle.std.proofs.Common.{codes, rules}
use Rattle.counters.specs.declared.counter.Counter.TheVariants.{Transfer}
use Rattle.counters.specs.Counters.{number_of}
use Rattle.counters.specs.Transfers.{transfer_word, sent_word}
use Rattle.counters.specs.Transfers.{all_transfers}
use Rattle.counters.specs.declared.transfer.Transfer.TheVariants.{Axfr}
use Rattle.metric_families.specs.Samples.{two_labels}
use Rattle.metric_families.proofs.EachLemmas.{one_more}
use Rattle.metric_families.proofs.counted.transfers.Goals as goal

pub loop-transfer-preserved : goal.loop-transfer-preserved
loop-transfer-preserved c =
    one_more (λ a. two_labels (codes "type") (transfer_word a) (codes "result") (sent_word a) (number_of (Transfer a) c.args.sum.now.numbers)) c.loop-transfer.family _ _ all_transfers c.loop-transfer.transfer-index Axfr c.loop-transfer-test.true (search rules) c.loop-transfer.invariant
