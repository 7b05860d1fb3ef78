use Rattle.std.proofs.Common.{◌≡◌, ◌+◌, ◌*◌, ◌≤◌, ◌++◌, map, take, length}
use Rattle.std.specs.Char.{to_ascii_lowercase}
use Rattle.std.specs.List.{flat_map}
use Rattle.dns_name.specs.Stored.{stored_octet}
use Rattle.dns_name.proofs.sought.put_folded.Given as goal

abbrev pub invariant-loop-octet : goal.invariant-loop-octet
invariant-loop-octet l = record {
  octets : l.to.items ≡ l.initial.to.items ++ flat_map stored_octet (map to_ascii_lowercase (take l.octet-index l.label));
  room : length l.to.items ≤ length l.initial.to.items + 2 * l.octet-index;
}
