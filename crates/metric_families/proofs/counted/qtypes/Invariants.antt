use Rattle.std.proofs.Common.{◌≡◌, codes, drop}
use Rattle.counters.specs.declared.counter.Counter.TheVariants.{Question}
use Rattle.counters.specs.Counters.{number_of}
use Rattle.counters.specs.Qtypes.{qtype_word}
use Rattle.metrics_text.specs.Families.{with_samples}
use Rattle.metric_families.specs.Families.{each_labelled}
use Rattle.metric_families.specs.Counted.{qtypes}
use Rattle.metric_families.proofs.counted.qtypes.Given as goal

-- what is there, with what is left, is all
abbrev pub invariant-loop-qtype : goal.invariant-loop-qtype
invariant-loop-qtype l = with_samples l.family (each_labelled (codes "type") qtype_word (λ qtype. number_of (Question qtype) l.sum.numbers) (drop l.qtype-index l.qtype-items)) ≡ qtypes l.sum.numbers
