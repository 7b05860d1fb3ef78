use Rattle.std.proofs.Common.{◌≡◌, ◌++◌, true, drop, string_bytes}
use Rattle.std.specs.Char.{is_ascii_alphanumeric}
use Rattle.std.specs.List.{list_all}
use Rattle.wide_text.proofs.words.write_letters.Given as goal

abbrev pub invariant-loop-octet : goal.invariant-loop-octet
invariant-loop-octet l = record {
  way : string_bytes l.text ++ drop l.octet-index l.octets ≡ string_bytes l.initial.text ++ l.octets;
  letters : list_all is_ascii_alphanumeric (drop l.octet-index l.octets) ≡ true;
}
