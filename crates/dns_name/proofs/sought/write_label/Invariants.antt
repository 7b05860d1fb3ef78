use Rattle.std.proofs.Common.{◌≡◌, ◌≤◌, ◌+◌, ◌*◌, ◌∷◌, ◌++◌, drop, map, length}
use Rattle.std.specs.Char.{to_ascii_lowercase}
use Rattle.std.specs.List.{flat_map}
use Rattle.dns_name.specs.Stored.{stored_octet}
use Rattle.dns_name.proofs.sought.write_label.Given as goal

-- what stands for the last octets of the label is written in front of the octet that closes it
abbrev pub invariant-loop-left : goal.invariant-loop-left
invariant-loop-left l = record {
  len : length l.out ≡ length l.fn.out;
  within : l.left ≤ length l.label;
  room : 2 * l.left ≤ l.at;
  below : l.at + 1 ≤ l.end;
  most : l.end + 2 * l.left ≤ l.at + 2 * length l.label + 1;
  octets : drop l.at l.out ≡ flat_map stored_octet (map to_ascii_lowercase (drop l.left l.label)) ++ 0 ∷ drop l.end l.fn.out;
}

abbrev pub decreases-loop-left : goal.decreases-loop-left
decreases-loop-left l = l.left
