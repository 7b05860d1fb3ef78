use Rattle.std.proofs.Common.{◌≡◌, drop}
use Rattle.dns_name.specs.Labels.{labels_in, IsWhole}
use Rattle.dns_name.proofs.compare.without.Given as goal

abbrev pub invariant-loop-i : goal.invariant-loop-i
invariant-loop-i l = record {
  whole : IsWhole l.rest;
  dropped : labels_in l.rest ≡ drop l._i (labels_in l.octets);
}
