use Rattle.std.proofs.Common.{◌≡◌, ◌↔◌, length}
use Rattle.wire_names.proofs.part.differ_singly.Given as goal

-- labels are the same where what is left of them is
abbrev pub invariant-loop-octet : goal.invariant-loop-octet
invariant-loop-octet l = record {
  many : length l.rest ≡ length l.others;
  same : (l.label ≡ l.other) ↔ (l.rest ≡ l.others);
}

abbrev pub decreases-loop-octet : goal.decreases-loop-octet
decreases-loop-octet l = length l.rest
