use Rattle.std.proofs.Common.{◌≡◌}
use Rattle.zone_tree.specs.Sets.{records_in}
use Rattle.transfer_core.specs.Lists.{beside_soa}
use Rattle.transfer_core.proofs.list.next_other.Given as goal

-- the sets that were passed are the SOA's
abbrev pub invariant-loop-set : goal.invariant-loop-set
invariant-loop-set l = beside_soa (records_in l.initial.walk) ≡ beside_soa (records_in l.walk)
