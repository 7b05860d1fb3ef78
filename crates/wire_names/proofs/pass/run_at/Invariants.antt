use Rattle.std.proofs.Common.{◌-◌}
use Rattle.wire_names.proofs.PassLemmas.{IsPassing}
use Rattle.wire_names.proofs.pass.run_at.Given as goal

abbrev pub invariant-loop-target : goal.invariant-loop-target
invariant-loop-target l = IsPassing l.msg l.at l.place l.used

-- each label takes of the octets
abbrev pub decreases-loop-target : goal.decreases-loop-target
decreases-loop-target l = 255 - l.used
