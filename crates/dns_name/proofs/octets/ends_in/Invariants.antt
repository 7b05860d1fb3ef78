use Rattle.std.proofs.Common.{◌≡◌, length}
use Rattle.dns_name.specs.Labels.{labels_in, IsWhole}
use Rattle.dns_name.specs.Name.{is_under}
use Rattle.dns_name.proofs.octets.ends_in.Given as goal

abbrev pub invariant-loop-rest : goal.invariant-loop-rest
invariant-loop-rest l = record {
  whole : IsWhole l.rest;
  same : is_under (labels_in l.rest) (labels_in l.other) ≡ is_under (labels_in l.octets) (labels_in l.other);
}

abbrev pub decreases-loop-rest : goal.decreases-loop-rest
decreases-loop-rest l = length l.rest
