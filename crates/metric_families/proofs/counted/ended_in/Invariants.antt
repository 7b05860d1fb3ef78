use Rattle.std.proofs.Common.{◌≡◌, drop}
use Rattle.metric_families.specs.Counted.{ended_by, ended_in}
use Rattle.metric_families.proofs.counted.ended_in.Given as goal

-- what is counted, with what is left, is all
abbrev pub invariant-loop-reason : goal.invariant-loop-reason
invariant-loop-reason l = ended_by l.ended l.sum.numbers (drop l.reason-index l.reason-items) ≡ ended_in l.sum.numbers
