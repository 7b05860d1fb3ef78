use Rattle.std.proofs.Common.{arith}
use Rattle.wire_names.proofs.LeadsLemmas.{more_ends}
use Rattle.wire_names.proofs.message.write_ends.Goals as goal

pub loop-at-init : goal.loop-at-init
loop-at-init c = λ at h. absurd (omega arith)

pub end_at-requires-clause-before : goal.end_at-requires-clause-before
end_at-requires-clause-before c = c.loop-at.invariant

pub loop-at-preserved : goal.loop-at-preserved
loop-at-preserved c = more_ends _ _ _ _ c.loop-at.invariant (omega arith) c.end_at.ensures

pub returns-clause-are : goal.returns-clause-are
returns-clause-are c = λ at h. c.loop-at.invariant at (omega arith)
