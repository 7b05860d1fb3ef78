use Rattle.std.proofs.Common.{◌≡◌, ◌<◌, ◌≤◌, ◌+◌, ℕ, None, drop}
use Rattle.dns_name.specs.Labels.{labels_in}
use Rattle.wire_names.specs.Table.{table_of, position_in}
use Rattle.wire_names.proofs.write.NameWriter.climb_in_part.Given as goal

-- the table has none of the suffixes between those that are looked at and the place
abbrev pub invariant-loop-k : goal.invariant-loop-k
invariant-loop-k l = record {
  up : l.k ≤ l.fn.found.labels;
  none : (j : ℕ) → l.k ≤ j + 1 → j < l.fn.found.labels → position_in (table_of l.msg l.self) (drop j (labels_in l.octets)) ≡ None;
}

abbrev pub decreases-loop-k : goal.decreases-loop-k
decreases-loop-k l = l.k
