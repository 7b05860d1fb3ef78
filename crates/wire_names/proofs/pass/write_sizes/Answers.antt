use Rattle.std.proofs.Common.{arith}
use Rattle.wire_names.proofs.PassLemmas.{more_sizes}
use Rattle.wire_names.proofs.pass.write_sizes.Goals as goal

pub loop-at-init : goal.loop-at-init
loop-at-init c = λ at h. absurd (omega arith)

pub size_at-requires-clause-before : goal.size_at-requires-clause-before
size_at-requires-clause-before c = c.loop-at.invariant

pub loop-at-preserved : goal.loop-at-preserved
loop-at-preserved c = more_sizes _ _ _ _ c.loop-at.invariant (omega arith) c.size_at.ensures

pub returns-clause-are : goal.returns-clause-are
returns-clause-are c = λ at h. c.loop-at.invariant at (omega arith)
