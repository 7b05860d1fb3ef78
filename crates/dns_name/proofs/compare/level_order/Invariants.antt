use Rattle.std.proofs.Common.{◌≡◌, length}
use Rattle.std.specs.Ordering.{ordering_then}
use Rattle.dns_name.specs.Labels.{labels_in, IsWhole}
use Rattle.dns_name.specs.Name.{canonical_cmp}
use Rattle.dns_name.proofs.compare.level_order.Given as goal

abbrev pub invariant-loop-label : goal.invariant-loop-label
invariant-loop-label l = record {
  whole : IsWhole l.rest;
  whole_other : IsWhole l.rest_other;
  level : length (labels_in l.rest) ≡ length (labels_in l.rest_other);
  order : ordering_then (canonical_cmp (labels_in l.rest) (labels_in l.rest_other)) l.order
      ≡ ordering_then (canonical_cmp (labels_in l.own) (labels_in l.other)) l.fn.surplus;
}

abbrev pub decreases-loop-label : goal.decreases-loop-label
decreases-loop-label l = length l.rest
