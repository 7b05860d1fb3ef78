use Rattle.std.proofs.Common.{◌≡◌, ◌+◌, drop}
use Rattle.wide_text.specs.Location.{point_of}
use Rattle.wide_text.proofs.location.point_of.Given as goal

abbrev pub invariant-loop-octet : goal.invariant-loop-octet
invariant-loop-octet l = record {
  count : l.place ≡ l.octet-index;
  way : l.place + point_of (drop l.octet-index l.text) ≡ point_of l.text;
}
