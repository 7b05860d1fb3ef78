use Rattle.std.proofs.Common.{◌≡◌, List, ◌++◌, drop, length}
use Rattle.dns_rdata.specs.Record.{Record}
use Rattle.zone_tree.specs.Zone.{soa_of}
use Rattle.zone_tree.specs.Sets.{records_in, sets_in}
use Rattle.zone_tree.specs.From.{records_from}
use Rattle.transfer_core.specs.Lists.{beside_soa}
use Rattle.transfer_core.specs.Places.{zone_left}
use Rattle.transfer_core.proofs.place.in_zone.Given as goal

-- what the walk has left is an end of it, and what is left of its records are those that are left
abbrev pub invariant-loop-set : goal.invariant-loop-set
invariant-loop-set l = record {
  parts : (passed : List (List Record)) × (sets_in (records_from l.fn.zone l.fn.owner l.fn.rtype.0) ≡ passed ++ l.walk);
  same : drop l.left (beside_soa (records_in l.walk) ++ soa_of l.fn.zone) ≡ drop l.fn.sent (zone_left l.fn.zone l.fn.owner l.fn.rtype.0);
}

abbrev pub decreases-loop-set : goal.decreases-loop-set
decreases-loop-set l = length l.walk
