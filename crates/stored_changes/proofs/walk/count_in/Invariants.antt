use Rattle.std.proofs.Common.{◌≡◌, length, take}
use Rattle.zone_tree.specs.Sets.{records_in}
use Rattle.stored_changes.proofs.walk.count_in.Given as goal

-- the records of the sets so far are counted
abbrev pub invariant-loop-set : goal.invariant-loop-set
invariant-loop-set l = l.count ≡ length (records_in (take l.set-index l.sets))
