use Rattle.std.proofs.Common.{◌≡◌, ◌+◌, length, take}
use Rattle.std.specs.Prelude.{All}
use Rattle.zone_tree.specs.Sets.{records_in, IsRRset}
use Rattle.zone_tree.proofs.check.check_count.Given as goal

-- The records of the sets so far are counted down from the most that a zone may have.
abbrev pub invariant-loop-set : goal.invariant-loop-set
invariant-loop-set l = record {
  counted : l.left + length (records_in (take l.set-index l.sets)) ≡ 1000000;
  each : All IsRRset (take l.set-index l.sets);
}
