use Rattle.std.proofs.Common.{◌<◌, ◌+◌, ◌≤◌, ℕ, length, nat_lt, if◌then◌else◌}
use Rattle.dns_name.specs.Labels.{labels_in}
use Rattle.wire_names.specs.Chains.{IsNewest}
use Rattle.wire_names.specs.Table.{BeginsAlike}
use Rattle.wire_names.proofs.table.Positions.child.Given as goal

-- among those in front of some, none begins so; the index is that of the newest that is left
abbrev pub invariant-loop-i : goal.invariant-loop-i
invariant-loop-i l = record {
  left : (count : ℕ) × (count ≤ length l.self) × IsNewest l.self l.parent count l.i × ((k : ℕ) → count ≤ k → k < length l.self → BeginsAlike l.msg l.self l.parent (labels_in l.octets) k → ⊥);
}

abbrev pub decreases-loop-i : goal.decreases-loop-i
decreases-loop-i l = if nat_lt l.i (length l.self) then l.i + 1 else 0
