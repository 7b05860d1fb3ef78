use Rattle.std.proofs.Common.{◌≡◌, codes, drop}
use Rattle.counters.specs.declared.counter.Counter.TheVariants.{UpdateRefused}
use Rattle.counters.specs.Counters.{number_of}
use Rattle.counters.specs.Refusals.{refusal_word}
use Rattle.metrics_text.specs.Families.{with_samples}
use Rattle.metric_families.specs.Families.{each_labelled}
use Rattle.metric_families.specs.Counted.{refusals}
use Rattle.metric_families.proofs.counted.refusals.Given as goal

-- what is there, with what is left, is all
abbrev pub invariant-loop-reason : goal.invariant-loop-reason
invariant-loop-reason l = with_samples l.family (each_labelled (codes "reason") refusal_word (λ reason. number_of (UpdateRefused reason) l.sum.numbers) (drop l.reason-index l.reason-items)) ≡ refusals l.sum.numbers
