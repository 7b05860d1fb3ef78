use Rattle.std.proofs.Common.{◌≡◌, ◌+◌, drop}
use Rattle.wide_text.specs.Params.{key_len}
use Rattle.wide_text.proofs.params.key_len.Given as goal

abbrev pub invariant-loop-octet : goal.invariant-loop-octet
invariant-loop-octet l = record {
  place : l.len ≡ l.octet-index;
  way : l.len + key_len (drop l.octet-index l.text) ≡ key_len l.text;
}
