use Rattle.std.proofs.Common.{◌≡◌, ◌≤◌, ◌+◌, ◌*◌, ◌++◌, drop, reverse, length}
use Rattle.std.specs.List.{flat_map}
use Rattle.dns_name.specs.Labels.{labels_in, IsWhole}
use Rattle.dns_name.specs.Name.{fold_name}
use Rattle.dns_name.specs.Stored.{stored_label}
use Rattle.dns_name.proofs.sought.put_name.Given as goal

-- what stands for the labels that are left belongs in front of what is written
abbrev pub invariant-loop-label : goal.invariant-loop-label
invariant-loop-label l = record {
  whole : IsWhole l.rest;
  len : length l.out ≡ 510;
  within : l.start ≤ 510;
  room : 2 * length l.rest ≤ l.start + 2;
  octets : flat_map stored_label (reverse (fold_name (labels_in l.rest))) ++ drop l.start l.out ≡ flat_map stored_label (reverse (fold_name (labels_in l.octets)));
}

abbrev pub decreases-loop-label : goal.decreases-loop-label
decreases-loop-label l = length l.rest
