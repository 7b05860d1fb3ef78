use Rattle.std.proofs.Common.{◌≡◌, ◌+◌, ◌≤◌, length}
use Rattle.dns_name.specs.Labels.{labels_in, IsWhole}
use Rattle.dns_name.proofs.compare.label_count.Given as goal

abbrev pub invariant-loop-behind : goal.invariant-loop-behind
invariant-loop-behind l = record {
  whole : IsWhole l.rest;
  counted : l.count + length (labels_in l.rest) ≡ length (labels_in l.octets);
  short : l.count + length l.rest ≤ length l.octets;
}

abbrev pub decreases-loop-behind : goal.decreases-loop-behind
decreases-loop-behind l = length l.rest
