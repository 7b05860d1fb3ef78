use Rattle.std.proofs.Common.{length}
use Rattle.dns_name.specs.Labels.{IsWhole}
use Rattle.wire_names.proofs.recent.suffix_at.Given as goal

abbrev pub invariant-loop-label : goal.invariant-loop-label
invariant-loop-label l = IsWhole l.rest

abbrev pub decreases-loop-label : goal.decreases-loop-label
decreases-loop-label l = length l.rest
