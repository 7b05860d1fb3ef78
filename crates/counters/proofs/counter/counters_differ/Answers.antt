use Rattle.counters.proofs.CounterLemmas.{differ}
use Rattle.counters.proofs.counter.counters_differ.Goals as goal

pub returns : goal.returns
returns c = differ
