use Rattle.std.proofs.Common.{◌≡◌, ◌+◌, ◌*◌, ◌≤◌, ◌++◌, length}
use Rattle.std.specs.List.{flat_map}
use Rattle.arrayvec.specs.ArrayString.{array_string_len}
use Rattle.dns_name.specs.Labels.{labels_in, IsWhole}
use Rattle.dns_name.specs.Text.{label_text}
use Rattle.dns_name.proofs.name.Name.to_text.Given as goal

abbrev pub invariant-loop-label : goal.invariant-loop-label
invariant-loop-label l = record {
  whole : IsWhole l.rest;
  text : l.text.bytes ++ flat_map label_text (labels_in l.rest) ≡ flat_map label_text l.self;
  room : array_string_len l.text + 4 * length l.rest ≤ 1020;
}

abbrev pub decreases-loop-label : goal.decreases-loop-label
decreases-loop-label l = length l.rest
