use Rattle.std.proofs.Common.{◌≡◌, false, drop}
use Rattle.wide_text.specs.Times.{has_units_after}
use Rattle.wide_text.proofs.times.has_units.Given as goal

abbrev pub invariant-loop-octet : goal.invariant-loop-octet
invariant-loop-octet l = has_units_after l.digits (drop l.octet-index l.text) ≡ has_units_after false l.text
