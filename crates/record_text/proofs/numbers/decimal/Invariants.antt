use Rattle.std.proofs.Common.{◌≡◌, ◌≤◌, drop}
use Rattle.record_text.proofs.NumberLemmas.{left_after}
use Rattle.record_text.proofs.numbers.decimal.Given as goal

abbrev pub invariant-loop-octet : goal.invariant-loop-octet
invariant-loop-octet l = record {
  left : left_after l.most l.value (drop l.octet-index l.text) ≡ left_after l.most 0 l.text;
  within : l.value ≤ l.most;
}
