use Rattle.std.proofs.Common.{◌≡◌, ◌+◌, ◌*◌, ◌≤◌, ◌++◌, take}
use Rattle.std.specs.List.{flat_map}
use Rattle.arrayvec.specs.ArrayString.{array_string_len}
use Rattle.dns_name.specs.Text.{octet_text}
use Rattle.dns_name.proofs.print.put_label.Given as goal

abbrev pub invariant-loop-octet : goal.invariant-loop-octet
invariant-loop-octet l = record {
  text : l.text.bytes ≡ l.initial.text.bytes ++ flat_map octet_text (take l.octet-index l.label);
  room : array_string_len l.text ≤ array_string_len l.initial.text + 4 * l.octet-index;
}
