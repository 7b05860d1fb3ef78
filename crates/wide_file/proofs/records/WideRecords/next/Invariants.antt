use Rattle.std.proofs.Common.{◌≡◌, length}
use Rattle.wide_file.specs.WideRecords.{records_from, IsInForce}
use Rattle.wide_file.proofs.records.WideRecords.next.Given as goal

abbrev pub invariant-loop-head : goal.invariant-loop-head
invariant-loop-head l = record {
  left : records_from l.self-inside.context l.self-inside.entries ≡ l.fn.self;
  in_force : IsInForce l.self-inside.context;
}

abbrev pub decreases-loop-head : goal.decreases-loop-head
decreases-loop-head l = length l.self-inside.entries
