use Rattle.std.proofs.Common.{◌≡◌, ◌≤◌, None, drop}
use Rattle.wide_text.specs.Times.{sum_after}
use Rattle.wide_text.proofs.times.sum_in.Given as goal

abbrev pub invariant-loop-octet : goal.invariant-loop-octet
invariant-loop-octet l = record {
  left : sum_after l.most l.sum (drop l.octet-index l.text) ≡ sum_after l.most (record { number = None; total = 0 }) l.text;
  within : l.sum.total ≤ l.most;
}
