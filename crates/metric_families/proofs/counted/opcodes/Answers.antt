use Rattle.std.proofs.Common.{codes, rules}
use Rattle.counters.specs.declared.counter.Counter.TheVariants.{Opcode}
use Rattle.counters.specs.declared.opcode.Opcode.TheVariants.{Query}
use Rattle.counters.specs.Counters.{number_of}
use Rattle.counters.specs.Opcodes.{all_opcodes, opcode_word}
use Rattle.metric_families.specs.Samples.{one_label}
use Rattle.metric_families.proofs.EachLemmas.{one_more}
use Rattle.metric_families.proofs.counted.opcodes.Goals as goal

pub loop-opcode-preserved : goal.loop-opcode-preserved
loop-opcode-preserved c =
    one_more (λ opcode. one_label (codes "opcode") (opcode_word opcode) (number_of (Opcode opcode) c.args.sum.now.numbers)) c.loop-opcode.family _ _ all_opcodes c.loop-opcode.opcode-index Query c.loop-opcode-test.true (search rules) c.loop-opcode.invariant
