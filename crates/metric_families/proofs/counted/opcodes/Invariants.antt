use Rattle.std.proofs.Common.{◌≡◌, codes, drop}
use Rattle.counters.specs.declared.counter.Counter.TheVariants.{Opcode}
use Rattle.counters.specs.Counters.{number_of}
use Rattle.counters.specs.Opcodes.{opcode_word}
use Rattle.metrics_text.specs.Families.{with_samples}
use Rattle.metric_families.specs.Families.{each_labelled}
use Rattle.metric_families.specs.Counted.{opcodes}
use Rattle.metric_families.proofs.counted.opcodes.Given as goal

-- what is there, with what is left, is all
abbrev pub invariant-loop-opcode : goal.invariant-loop-opcode
invariant-loop-opcode l = with_samples l.family (each_labelled (codes "opcode") opcode_word (λ opcode. number_of (Opcode opcode) l.sum.numbers) (drop l.opcode-index l.opcode-items)) ≡ opcodes l.sum.numbers
